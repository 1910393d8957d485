pub mod Firsts
pub mod Held
pub mod Laid
pub mod Rows
