pub mod Line
pub mod Seen
pub mod LineExamples
pub mod Laws
pub mod Spelling
