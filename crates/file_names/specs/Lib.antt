pub mod NameCalls
pub mod Lacks
