pub mod Walked
pub mod Noted
