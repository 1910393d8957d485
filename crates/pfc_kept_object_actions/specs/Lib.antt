pub mod Freed
pub mod Groups
