pub mod Layout
pub mod InLanes
