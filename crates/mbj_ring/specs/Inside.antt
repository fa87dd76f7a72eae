pub mod CellLends
pub mod Cells
pub mod Laid
pub mod Ownership
