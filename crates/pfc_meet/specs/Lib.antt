pub mod Choices
pub mod Matches
pub mod Meetings
pub mod Unpaired
