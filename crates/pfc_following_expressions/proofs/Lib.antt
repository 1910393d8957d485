pub mod Glue
pub mod Held
pub mod Moves
pub mod Places
pub mod Expressions
pub mod Anywhere
