pub mod Moments
pub mod Sorted
