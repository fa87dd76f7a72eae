pub mod Held
pub mod Ranges
pub mod Seated
pub mod Answers
pub mod Room
