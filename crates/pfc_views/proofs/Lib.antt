pub mod Living
pub mod Links
pub mod Paths
pub mod Named
pub mod Kept
pub mod Changes
pub mod Checked
