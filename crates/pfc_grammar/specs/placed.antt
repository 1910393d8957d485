pub mod Exprs
pub mod Parts
pub mod Reading
pub mod Stmts
pub mod Types
