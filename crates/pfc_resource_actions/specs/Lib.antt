pub mod Guards
pub mod Scans
