pub mod Deciding
pub mod Programs
pub mod Runs
