pub mod Calls
pub mod Chosen
pub mod Passing
pub mod Taking
pub mod Timing
pub mod Ways
