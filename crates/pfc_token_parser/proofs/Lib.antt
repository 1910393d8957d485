pub mod Branches
pub mod Ended
pub mod Loops
