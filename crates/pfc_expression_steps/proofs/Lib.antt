pub mod Firsts
pub mod Nodes
pub mod Rules
