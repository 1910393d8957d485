pub mod Subs
pub mod Cells
