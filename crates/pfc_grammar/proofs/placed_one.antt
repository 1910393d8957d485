pub mod Exprs
pub mod Filling
pub mod Parts
pub mod Stmts
pub mod Types
