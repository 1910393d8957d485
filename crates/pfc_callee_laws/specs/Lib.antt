pub mod Agreeing
pub mod Callees
