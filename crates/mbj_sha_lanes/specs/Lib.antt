pub mod Halves
pub mod Sha2
pub mod Words
pub mod Inside
