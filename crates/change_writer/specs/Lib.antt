pub mod Members
pub mod Said
pub mod Bodies
pub mod Writer
pub mod Comments
