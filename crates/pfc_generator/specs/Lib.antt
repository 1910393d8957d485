pub mod Making
pub mod Phrases
pub mod Pieces
pub mod Views
pub mod Whole
