pub mod Alternatives
pub mod Keeping
pub mod Kept
pub mod KeptCalls
pub mod Nodes
pub mod Quiet
