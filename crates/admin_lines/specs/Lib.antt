pub mod Faults
pub mod Heads
pub mod Holds
pub mod Replies
pub mod Laws
pub mod Examples
