pub mod Found
pub mod Labelled
