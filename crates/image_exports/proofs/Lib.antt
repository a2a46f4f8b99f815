pub mod Looked
pub mod Viewed
pub mod Tellings
