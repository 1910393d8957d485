pub mod Ending
pub mod Scans
pub mod Ways
