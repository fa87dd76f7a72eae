-- What only private functions cite.
pub mod Plays
pub mod Keeps
