pub mod Beginning
pub mod Counting
pub mod InView
pub mod Living
pub mod Paths
pub mod Reaching
pub mod Seen
