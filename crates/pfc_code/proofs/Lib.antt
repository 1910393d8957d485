pub mod CodeLines
