pub mod Alone
pub mod Entered
pub mod Nodes
pub mod Waiting
