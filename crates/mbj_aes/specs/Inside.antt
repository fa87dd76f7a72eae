pub mod Padding
pub mod Turns
pub mod FirstKeys
