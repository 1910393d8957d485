pub mod Fitting
pub mod Written
pub mod Asked
pub mod Remainders
pub mod Inputs
pub mod Configurations
