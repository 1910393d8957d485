pub mod Ending
pub mod Finishing
pub mod Going
pub mod Scanning
