pub mod Locations
pub mod Values
pub mod Anywhere
