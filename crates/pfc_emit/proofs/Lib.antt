pub mod Patches
pub mod Pairs
