pub mod Objects
pub mod Names
pub mod Declarations
pub mod Parts
pub mod Programs
pub mod Few
pub mod Tokens
pub mod Runs
