pub mod NameBytes
pub mod Places
pub mod Parts
pub mod Limits
pub mod Endings
pub mod Spellings
