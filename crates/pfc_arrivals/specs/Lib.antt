pub mod Arrivals
pub mod Wants
