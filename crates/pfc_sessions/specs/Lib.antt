pub mod Courses
pub mod Runs
pub mod Stages
pub mod Standings
pub mod Steps
