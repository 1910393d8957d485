pub mod Laws
pub mod Ordered
pub mod RunSteps
pub mod Seen
