pub mod PageNumbers
pub mod FirstFilled
