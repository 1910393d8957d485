pub mod Holding
pub mod Instructions
pub mod Rows
pub mod Sites
