pub mod Leaves
pub mod Cobegin
pub mod Structures
