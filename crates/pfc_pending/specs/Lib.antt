pub mod Ahead
pub mod Pieces
pub mod Selects
pub mod Texts
pub mod Waiting
