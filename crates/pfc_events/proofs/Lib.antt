pub mod Communicating
pub mod Deciding
pub mod Matches
pub mod Objects
pub mod Parameters
pub mod Telling
pub mod Touching
pub mod Waking
