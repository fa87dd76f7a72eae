pub mod Blocks
pub mod Ranges
pub mod Walk
pub mod XoredTwice
