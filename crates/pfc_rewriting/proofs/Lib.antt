pub mod Sorts
pub mod Waiting
