mod Ranges
pub mod Compound
pub mod Cases
pub mod Counting
pub mod Selecting
pub mod Single
pub mod Every
pub mod Replicas
pub mod Anywhere
pub mod Guards
pub mod Left
