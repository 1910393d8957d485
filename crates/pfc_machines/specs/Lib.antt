pub mod Actions
pub mod Descriptors
pub mod Communications
pub mod Machines
pub mod Offers
pub mod Partners
pub mod Quiet
pub mod Rooms
