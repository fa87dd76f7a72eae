pub mod Generator
pub mod Lines
pub mod Summary
pub mod Sums
