pub mod Blocks
pub mod Calendar
pub mod Date
pub mod Examples
