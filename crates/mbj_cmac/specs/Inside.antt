pub mod Closing
pub mod Sound
