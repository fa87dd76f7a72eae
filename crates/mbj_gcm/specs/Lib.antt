pub mod Laws
pub mod Inside
pub mod Incremented
