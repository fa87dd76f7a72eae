mod DrawnBytes
pub mod GeneratedJobs
mod ResultLines
mod Sums
mod TagLengths
