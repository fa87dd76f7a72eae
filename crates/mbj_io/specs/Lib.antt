pub mod Faults
pub mod Streams
pub mod Calls
pub mod Memory
