-- What a state of a text in parts holds, and what functions inside the crate compute.
pub mod Stream
