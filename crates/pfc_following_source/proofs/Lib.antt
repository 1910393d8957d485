pub mod awaits
pub mod structures
pub mod selects
pub mod Places
pub mod Source
pub mod Behind
pub mod Meetings
