pub mod Homes
pub mod Parsing
