pub mod Phrases
pub mod Holds
pub mod Layouts
pub mod Arms
pub mod Levels
pub mod Modules
pub mod MainLevels
