pub mod Accepts
pub mod Bodies
pub mod Parameters
pub mod Programs
pub mod Views
pub mod Monitors
pub mod Scoped
