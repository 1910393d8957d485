pub mod Messages
pub mod Items
pub mod Anywhere
pub mod Routines
pub mod Calls
pub mod Reached
