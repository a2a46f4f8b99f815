pub mod ImageSites
pub mod OpeningWork
pub mod DiskOpening
pub mod OpenFaults
pub mod Headline
pub mod Upgrades
pub mod Tightness
