pub mod Blocks
pub mod Around
pub mod Inside
pub mod Calls
