pub mod Deals
pub mod Endless
mod Lists
mod PartyCalls
pub mod Hands
pub mod HandTurns
pub mod Keeping
pub mod Rounds
pub mod Collecting
pub mod Crews
pub mod Settling
