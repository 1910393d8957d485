pub mod Beginning
pub mod Created
pub mod Lines
