pub mod ShortPairs
pub mod CutNames
pub mod WholeSites
pub mod FoundEntries
