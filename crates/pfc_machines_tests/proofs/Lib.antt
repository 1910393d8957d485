pub mod Children
pub mod Granted
pub mod Starts
