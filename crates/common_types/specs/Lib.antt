pub mod ByteOrder
pub mod Counts
pub mod Digits
pub mod Names
pub mod CrashStates
pub mod KeptBytes
pub mod Shown
pub mod PrintedNames
