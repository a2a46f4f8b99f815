pub mod Places
pub mod LastBytes
pub mod GrowingStreams
pub mod CleanLines
pub mod Cuts
pub mod Periods
pub mod WholeRequests
