pub mod Filled
pub mod Full
pub mod Rows
pub mod LoadingExamples
