pub mod Subs
pub mod Order
