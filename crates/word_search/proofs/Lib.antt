pub mod Distinct
pub mod Runs
pub mod Changes
pub mod SameWords
