pub mod Ahead
pub mod Names
