pub mod Counts
pub mod Names
pub mod Near
pub mod Within
