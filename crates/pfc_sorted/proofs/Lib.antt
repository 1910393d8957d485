pub mod Calls
pub mod Counts
pub mod Pieces
pub mod Puts
pub mod Takes
pub mod Searches
