pub mod Numbers
pub mod Headings
pub mod Unused
pub mod Steps
pub mod Parts
pub mod Processes
