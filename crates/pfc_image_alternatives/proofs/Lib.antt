pub mod Quiet
pub mod Spreads
pub mod Statements
pub mod Images
