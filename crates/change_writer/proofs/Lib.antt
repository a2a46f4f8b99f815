pub mod Inserted
pub mod Lists
pub mod MemberLaws
pub mod SmallTables
pub mod Puts
pub mod Files
pub mod CommentLines
