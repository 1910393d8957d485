pub mod Acting
pub mod Meetings
pub mod States
