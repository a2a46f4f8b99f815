pub mod Progress
pub mod Source
pub mod Counting
pub mod Drawing
pub mod ViewDraw
