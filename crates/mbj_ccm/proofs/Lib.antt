pub mod CounterNumbers
pub mod Ends
pub mod Formatted
mod Opening
pub mod WrittenNumbers
