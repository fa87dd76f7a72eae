pub mod Bytes
pub mod Laws
pub mod Examples
pub mod Tower
pub mod BlockWords
pub mod Moves
pub mod Inside
