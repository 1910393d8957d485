pub mod Entering
pub mod Refusing
