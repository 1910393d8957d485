pub mod Communications
pub mod Effects
pub mod Runs
