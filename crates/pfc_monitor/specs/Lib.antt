pub mod Guards
pub mod Orderly
