pub mod Listing
pub mod Lines
pub mod Formatted
pub mod Faults
pub mod FaultLines
pub mod CommandExamples
pub mod Compacted
pub mod Upgraded
