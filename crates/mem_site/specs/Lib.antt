pub mod ShortEntries
pub mod MemoryReads
pub mod MemoryFaults
pub mod ValidSites
