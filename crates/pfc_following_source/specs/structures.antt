pub mod Structured
pub mod Left
