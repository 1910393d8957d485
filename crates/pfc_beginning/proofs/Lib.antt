pub mod Beginning
pub mod Parts
