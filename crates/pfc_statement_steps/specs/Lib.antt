pub mod Begins
pub mod Resumed
