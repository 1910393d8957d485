pub mod Exprs
pub mod Parts
pub mod Passing
pub mod Stmts
pub mod Types
