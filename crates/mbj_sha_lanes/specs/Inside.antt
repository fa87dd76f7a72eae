pub mod Windows
pub mod Columns32
pub mod Columns64
