pub mod Firsts
pub mod FirstPlaces
pub mod Held
pub mod InView
pub mod Laid
pub mod Places
pub mod Views
