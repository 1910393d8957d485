pub mod Exprs
pub mod Types
pub mod Stmts
pub mod Parts
