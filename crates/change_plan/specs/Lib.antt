pub mod LookUps
pub mod Replacements
pub mod Plans
pub mod AllPlans
pub mod AheadLaws
