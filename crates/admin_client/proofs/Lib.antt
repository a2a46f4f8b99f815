pub mod Asked
pub mod Replied
pub mod Held
