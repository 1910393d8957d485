pub mod Entering
pub mod Guards
