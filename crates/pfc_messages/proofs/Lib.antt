pub mod Exchanging
pub mod Showing
