pub mod BlockWords
pub mod Windows
