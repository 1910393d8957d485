pub mod Programs
pub mod Relation
pub mod Shown
pub mod Views
