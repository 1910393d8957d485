pub mod ByHand
pub mod MainBodies
pub mod Readings
pub mod Worked
