pub mod Scopes
pub mod Headings
