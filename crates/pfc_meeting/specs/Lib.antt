pub mod Delays
pub mod Going
pub mod Meeting
pub mod Opens
