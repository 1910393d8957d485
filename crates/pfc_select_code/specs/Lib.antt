pub mod Alternatives
pub mod Cells
pub mod Leading
pub mod Values
