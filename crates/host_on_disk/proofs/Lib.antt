pub mod Images
pub mod OpeningRead
pub mod Openings
pub mod Upgraded
pub mod FoundAgain
pub mod Runs
pub mod RunsInTurn
