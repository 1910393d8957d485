pub mod Faults
pub mod depths
pub mod kept
