pub mod SitesRead
pub mod Copies
pub mod CopyFaults
pub mod CopyLines
