pub mod Digits
pub mod Beginnings
pub mod FirstPlaces
pub mod Lengths
pub mod HeadsRead
