pub mod Reached
pub mod Numbers
pub mod Headings
pub mod Processes
