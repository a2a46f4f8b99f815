pub mod Documents
pub mod Got
pub mod ItemExamples
pub mod ItemLines
pub mod Looks
pub mod Posts
