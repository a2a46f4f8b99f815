pub mod Moments
pub mod Taking
pub mod Rounds
