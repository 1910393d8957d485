pub mod Acting
pub mod Effects
pub mod Reading
pub mod Replaying
pub mod Rows
