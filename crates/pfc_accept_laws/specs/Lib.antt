pub mod Displays
pub mod Shown
pub mod Places
pub mod Placed
