pub mod Shows
pub mod Texts
