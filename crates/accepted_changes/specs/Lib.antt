pub mod Accepted
pub mod Laws
pub mod Examples
pub mod UpgradedStarts
