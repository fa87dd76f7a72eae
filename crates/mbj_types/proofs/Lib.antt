pub mod LaneLists
pub mod LaneRotations
pub mod Vectors
pub mod XorLists
