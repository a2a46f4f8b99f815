pub mod Answers
pub mod Reading
pub mod Seen
pub mod Post
pub mod Examples
