pub mod Places
pub mod Looked
pub mod Found
pub mod Posted
