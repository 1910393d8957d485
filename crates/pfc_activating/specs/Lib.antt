pub mod Calling
pub mod Cells
pub mod Ending
pub mod Entering
pub mod Passing
