pub mod Courses
pub mod Lines
pub mod Telling
pub mod Walks
pub mod Watching
