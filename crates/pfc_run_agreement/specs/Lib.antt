pub mod Agreement
pub mod Courses
