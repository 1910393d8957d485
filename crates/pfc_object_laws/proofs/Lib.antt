pub mod Tables
pub mod Lists
pub mod Parts
pub mod Values
pub mod Numbers
pub mod Names
pub mod Places
pub mod Mains
