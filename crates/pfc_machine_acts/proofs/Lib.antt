pub mod Blocks
pub mod Clock
pub mod Ends
pub mod Lengths
pub mod Runs
pub mod Tried
pub mod Wants
