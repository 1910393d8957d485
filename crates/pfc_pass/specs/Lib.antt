pub mod Counts
pub mod Messages
