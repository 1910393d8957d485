pub mod Calls
pub mod Requeues
pub mod Returns
