pub mod Halfway
pub mod Least
pub mod Advanced
pub mod Listing
pub mod Standing
pub mod Taken
