pub mod Expressions
pub mod Calls
pub mod Statements
pub mod Names
pub mod Programs
