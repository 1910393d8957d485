pub mod Written
pub mod Numbers
pub mod Runs
pub mod Objects
pub mod Tokens
