pub mod Barring
pub mod Scanning
pub mod Trying
pub mod Under
