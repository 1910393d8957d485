pub mod Inside
pub mod Moments
pub mod Waiting
