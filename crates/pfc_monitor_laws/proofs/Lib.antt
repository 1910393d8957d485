pub mod Tokens
pub mod Held
pub mod Values
pub mod Names
pub mod Places
