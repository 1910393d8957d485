pub mod Heads
pub mod Outcomes
pub mod Reading
pub mod grammar
pub mod placed
