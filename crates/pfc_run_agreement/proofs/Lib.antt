pub mod Agreeing
pub mod Coursing
pub mod Keeping
