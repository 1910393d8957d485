pub mod Accepting
pub mod Entering
pub mod Pairs
pub mod Room
pub mod Standings
pub mod Statements
pub mod Taking
