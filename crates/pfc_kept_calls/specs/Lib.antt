pub mod Callees
pub mod Groups
