mod Digits
pub mod KeyLists
mod ToldRead
pub mod ValueLists
