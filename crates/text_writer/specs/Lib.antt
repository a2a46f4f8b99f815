pub mod Errors
pub mod Examples
pub mod Place
pub mod Pipe
pub mod Text
pub mod Menu
