pub mod Coming
pub mod Ending
pub mod Standing
pub mod Turns
pub mod Untried
pub mod Ways
