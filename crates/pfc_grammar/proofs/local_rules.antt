pub mod Exprs
pub mod Parts
pub mod Stmts
pub mod Types
