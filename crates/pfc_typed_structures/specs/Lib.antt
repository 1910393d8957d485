pub mod Inside
pub mod Accepts
