pub mod Before
pub mod Parts
