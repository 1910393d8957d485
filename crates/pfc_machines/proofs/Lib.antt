pub mod Ends
pub mod Making
pub mod Placing
pub mod Walking
