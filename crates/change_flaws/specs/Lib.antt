pub mod Flaws
pub mod Refusals
pub mod Told
