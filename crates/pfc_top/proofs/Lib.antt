pub mod Courses
pub mod Images
pub mod Outcomes
pub mod Reports
