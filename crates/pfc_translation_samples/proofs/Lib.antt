pub mod CodeTexts
pub mod Wholes
