pub mod Message
pub mod Outcome
pub mod Reading
pub mod Inside
