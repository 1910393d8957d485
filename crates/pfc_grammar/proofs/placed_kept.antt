pub mod Exprs
pub mod Loops
pub mod Parts
pub mod Readers
pub mod Stmts
pub mod Types
