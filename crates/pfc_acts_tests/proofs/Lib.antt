pub mod Allowed
pub mod Sound
pub mod Turns
