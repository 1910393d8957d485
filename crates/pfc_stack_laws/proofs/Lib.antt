pub mod Seen
pub mod Objects
pub mod Quiet
pub mod Plain
pub mod Moves
pub mod Variables
