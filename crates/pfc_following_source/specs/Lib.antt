pub mod awaits
pub mod structures
pub mod selects
pub mod Source
pub mod Behind
