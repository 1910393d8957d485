pub mod Acceptances
pub mod Choosing
pub mod Once
pub mod Taking
pub mod Unpairing
