pub mod State
pub mod Claiming
pub mod Giving
