pub mod Acting
pub mod Conditions
pub mod Performing
pub mod Quietly
pub mod Running
pub mod Settling
