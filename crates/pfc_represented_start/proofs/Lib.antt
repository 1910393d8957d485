pub mod Setting
pub mod Memory
pub mod Main
pub mod Level
pub mod Processes
pub mod Whole
pub mod Checked
