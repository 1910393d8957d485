pub mod Conditions
pub mod Objects
pub mod Semaphores
