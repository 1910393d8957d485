pub mod Answers
pub mod Meanings
pub mod Reading
pub mod Running
pub mod Traces
pub mod Words
