pub mod Performing
pub mod Pushing
pub mod Trying
pub mod Waits
