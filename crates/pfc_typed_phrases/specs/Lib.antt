pub mod Names
pub mod Phrases
