pub mod PartLevels
pub mod Whiling
pub mod Whole
