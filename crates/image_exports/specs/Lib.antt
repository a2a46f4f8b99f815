pub mod Told
pub mod Looks
pub mod Whole
pub mod Exports
