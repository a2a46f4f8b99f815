pub mod Serving
pub mod Starting
pub mod DailyServing
pub mod Lines
pub mod Listening
