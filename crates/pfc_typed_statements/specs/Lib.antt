pub mod Reached
pub mod Statements
