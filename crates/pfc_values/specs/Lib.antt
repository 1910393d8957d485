pub mod Inputs
pub mod Numbers
pub mod Outputs
pub mod Pieces
pub mod Readings
pub mod Simples
