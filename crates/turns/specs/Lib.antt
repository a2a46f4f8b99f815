pub mod WireCalls
pub mod Turns
pub mod Runs
pub mod TurnExamples
