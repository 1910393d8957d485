pub mod Seen
mod Words
mod Selects
mod Remainders
mod Awaits
pub mod Doing
