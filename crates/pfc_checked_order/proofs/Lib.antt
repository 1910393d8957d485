pub mod Starts
pub mod Names
pub mod Modules
pub mod Blocks
