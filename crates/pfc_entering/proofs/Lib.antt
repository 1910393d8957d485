pub mod Entering
pub mod Guarded
pub mod Turns
