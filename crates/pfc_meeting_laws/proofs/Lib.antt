pub mod Frames
pub mod Accepts
pub mod Taking
pub mod Meetings
pub mod Laid
