pub mod Subs
pub mod Layouts
pub mod Formals
pub mod Trees
pub mod Cells
