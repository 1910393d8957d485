pub mod Selects
