pub mod Acted
pub mod Gathering
pub mod Joining
pub mod OneTurn
pub mod Reported
pub mod Watched
