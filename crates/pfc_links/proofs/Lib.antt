pub mod Empty
pub mod In
pub mod Looks
pub mod Members
pub mod Out
pub mod OutBackward
pub mod OutForward
