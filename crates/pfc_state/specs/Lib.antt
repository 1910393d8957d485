pub mod Seats
pub mod Slots
pub mod Stands
pub mod Waits
