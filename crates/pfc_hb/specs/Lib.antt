pub mod Clocks
pub mod Conflicts
pub mod Parts
pub mod Lines
pub mod Order
pub mod Users
pub mod Rows
pub mod Lasts
