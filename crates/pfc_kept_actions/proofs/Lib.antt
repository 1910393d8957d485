pub mod Creatable
pub mod Every
pub mod Numbered
