pub mod Schedules
pub mod Equivalent
pub mod Parts
pub mod Gmac
pub mod Laws
pub mod Inside
pub mod Hashed
