pub mod Creatable
pub mod Groups
