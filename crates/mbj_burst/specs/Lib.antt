pub mod Lines
pub mod Burst
pub mod Inside
