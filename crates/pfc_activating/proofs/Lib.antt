pub mod Activated
pub mod Calling
pub mod Ended
