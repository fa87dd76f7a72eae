pub mod Examples
pub mod Inside
pub mod State
