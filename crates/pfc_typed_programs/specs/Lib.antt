pub mod Bodies
pub mod Accepts
