pub mod Lines
pub mod Replay
pub mod Events
pub mod Inside
