pub mod AnswersRelated
pub mod Steps
pub mod Titles
