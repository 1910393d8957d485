pub mod Held
pub mod FirstPlaces
pub mod Sums
