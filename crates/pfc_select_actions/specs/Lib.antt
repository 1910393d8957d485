pub mod Agreements
pub mod Conditions
pub mod Selects
