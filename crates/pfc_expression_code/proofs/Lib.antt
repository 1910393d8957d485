pub mod Fields
pub mod Joining
pub mod Lone
pub mod Nodes
pub mod Putting
pub mod Same
