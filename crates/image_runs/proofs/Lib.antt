pub mod Made
pub mod OtherRuns
