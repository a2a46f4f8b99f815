pub mod Sendings
pub mod Runnings
pub mod Passing
pub mod TurnsMade
pub mod AllClosed
pub mod Telling
