pub mod Commits
pub mod OneCall
pub mod Runs
pub mod SingleChanges
pub mod Crashes
