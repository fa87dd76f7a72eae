pub mod Causes
pub mod Stops
