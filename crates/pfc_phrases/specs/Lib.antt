pub mod Fields
pub mod Found
pub mod Single
pub mod Views
