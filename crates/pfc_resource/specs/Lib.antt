pub mod Orderly
pub mod Scans
