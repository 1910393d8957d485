pub mod entries
pub mod selects
pub mod Groups
pub mod Owners
pub mod Accepts
pub mod Waiting
