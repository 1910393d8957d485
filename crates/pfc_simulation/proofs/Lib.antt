mod Communications
mod Effects
mod Resting
pub mod Looks
pub mod Simulating
pub mod Stepping
pub mod Steps
