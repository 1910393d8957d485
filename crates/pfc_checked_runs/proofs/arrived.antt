pub mod Resuming
pub mod Requeueing
pub mod Entering
