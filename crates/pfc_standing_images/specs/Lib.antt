pub mod Images
pub mod Bodies
