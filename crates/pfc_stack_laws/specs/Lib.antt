pub mod Standing
pub mod Instructions
