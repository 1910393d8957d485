pub mod Operands
pub mod Instructions
pub mod Layouts
pub mod Levels
pub mod Modules
