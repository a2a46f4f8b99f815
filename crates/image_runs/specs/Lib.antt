pub mod ImageChanges
pub mod ImageRuns
pub mod StoppedLines
