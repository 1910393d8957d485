pub mod Places
pub mod Pieces
pub mod Images
pub mod Wholes
pub mod Bodies
pub mod Scans
pub mod Guards
pub mod Numbers
