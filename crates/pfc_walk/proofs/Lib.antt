pub mod Courses
pub mod Meant
pub mod Outcomes
pub mod Readings
pub mod RunRaces
pub mod Traced
