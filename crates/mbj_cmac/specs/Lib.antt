pub mod Inside
pub mod Rounds
