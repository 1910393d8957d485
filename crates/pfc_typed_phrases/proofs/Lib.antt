pub mod Rules
pub mod Names
pub mod Values
pub mod Phrases
pub mod Anywhere
pub mod Seen
pub mod Known
