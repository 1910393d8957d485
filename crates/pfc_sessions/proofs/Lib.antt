mod Gathering
mod Ready
mod Stepping
mod Turning
