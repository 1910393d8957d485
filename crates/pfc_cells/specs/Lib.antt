pub mod Shapes
pub mod Homes
pub mod Memory
pub mod Activations
