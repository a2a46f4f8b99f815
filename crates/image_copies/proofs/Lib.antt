pub mod PairsRead
pub mod SitesRead
pub mod Plans
