pub mod Delays
pub mod Sorted
