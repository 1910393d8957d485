pub mod Requeueing
