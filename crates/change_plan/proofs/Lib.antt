pub mod LastPosts
pub mod Moving
pub mod Posting
pub mod Planning
pub mod AfterLookUps
pub mod PlansOfAll
