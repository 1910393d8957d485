pub mod Performing
pub mod Turns
pub mod Waiting
