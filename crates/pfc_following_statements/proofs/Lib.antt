pub mod HeldCalls
pub mod HeldStatements
pub mod Grouping
pub mod Simple
pub mod Items
pub mod Anywhere
pub mod Procedures
pub mod Activations
