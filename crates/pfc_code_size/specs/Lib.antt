pub mod Calls
pub mod Expressions
pub mod Lone
pub mod Parameters
pub mod Phrases
pub mod Programs
pub mod Statements
