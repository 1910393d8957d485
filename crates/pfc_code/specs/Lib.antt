pub mod Images
pub mod Operands
pub mod Pages
pub mod Printing
pub mod Rows
