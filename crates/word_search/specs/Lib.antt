pub mod Search
pub mod Finds
pub mod WordChange
pub mod Gathered
pub mod SearchExamples
