pub mod ListedItems
pub mod DiskSites
pub mod FirstLeaves
pub mod FormattedImages
pub mod NotWritten
pub mod SyncedOnce
