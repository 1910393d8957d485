pub mod Tops
pub mod Written
pub mod Remainders
pub mod Configurations
pub mod Runs
pub mod Keeping
