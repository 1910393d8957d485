pub mod Accepting
pub mod Coming
pub mod Matching
pub mod Waiting
