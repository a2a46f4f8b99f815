pub mod Draws
pub mod ConnectionsMade
