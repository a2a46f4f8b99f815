pub mod ItemLines
pub mod ClientReads
pub mod Joins
pub mod MenuLines
pub mod PipeRuns
pub mod Pipes
pub mod Runs
