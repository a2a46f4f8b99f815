pub mod OtherRuns
pub mod Places
