pub mod Exprs
pub mod Levels
pub mod Parts
pub mod Stmts
pub mod Types
