pub mod Modules
pub mod Before
pub mod Parts
