pub mod Linked
pub mod Members
