pub mod Page
pub mod Faults
pub mod UrlExamples
