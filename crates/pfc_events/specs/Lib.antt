pub mod Accesses
pub mod Choosing
pub mod Events
pub mod Held
pub mod Sides
pub mod Things
pub mod Wakes
