pub mod Behind
pub mod Both
pub mod BothPass
pub mod Sides
pub mod Waking
pub mod Walking
