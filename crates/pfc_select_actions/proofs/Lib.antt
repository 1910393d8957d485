pub mod Agreeing
pub mod Settled
