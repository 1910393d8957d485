pub mod Alike
pub mod Rules
pub mod Known
pub mod Phrases
pub mod Bodies
pub mod Plain
pub mod AcceptCells
pub mod Images
