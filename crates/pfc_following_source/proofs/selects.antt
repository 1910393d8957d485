pub mod Jumps
pub mod Branches
pub mod Counts
pub mod Arms
pub mod Alternatives
pub mod Selects
pub mod Anywhere
