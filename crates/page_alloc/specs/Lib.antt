pub mod Calls
pub mod Examples
pub mod Kept
pub mod LedgerState
pub mod Lives
pub mod Moves
pub mod Outcomes
pub mod Runs
