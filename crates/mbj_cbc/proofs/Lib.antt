pub mod Ends
pub mod Undoing
pub mod WholeBlocks
