pub mod Addresses
pub mod Patches
