pub mod accepts
pub mod arrived
pub mod Along
pub mod Asked
pub mod Carried
