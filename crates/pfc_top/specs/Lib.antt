pub mod Answers
pub mod Compiling
pub mod Listings
pub mod Meanings
pub mod Running
