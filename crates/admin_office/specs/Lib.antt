pub mod Arrivals
pub mod Tasks
pub mod Lines
pub mod Requests
pub mod Offices
