pub mod Creating
pub mod Doing
pub mod Writing
