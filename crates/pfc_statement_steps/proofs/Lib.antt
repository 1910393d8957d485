pub mod Assigned
pub mod Guarded
pub mod Left
pub mod Repeats
pub mod Rules
