-- What only private functions cite.
pub mod Gathering
pub mod Holding
pub mod Runs
pub mod Tasks
