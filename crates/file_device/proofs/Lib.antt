pub mod Found
pub mod Opened
pub mod Pages
pub mod Pieces
pub mod Shown
pub mod PageCalls
