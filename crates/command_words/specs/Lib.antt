pub mod CommandLine
pub mod Misreads
pub mod Reading
pub mod Tasks
pub mod WordExamples
