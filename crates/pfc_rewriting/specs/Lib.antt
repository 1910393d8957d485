pub mod Going
pub mod Kinds
pub mod Within
