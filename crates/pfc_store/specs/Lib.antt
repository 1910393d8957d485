pub mod Bounds
pub mod Frames
pub mod Latest
pub mod Numbered
pub mod Views
