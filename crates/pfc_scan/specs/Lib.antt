pub mod Computed
pub mod Cutting
pub mod Finding
pub mod Pieces
pub mod Scanning
pub mod Small
