mod Undoing
pub mod IncrementedCounters
pub mod Tags
