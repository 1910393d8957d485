pub mod Counts
pub mod Fields
pub mod Nodes
pub mod Single
