pub mod Orders
pub mod Withdrawn
pub mod Opened
pub mod Able
pub mod Begun
pub mod Entered
