pub mod Stages
pub mod Queues
pub mod Course
pub mod Counts
pub mod Between
