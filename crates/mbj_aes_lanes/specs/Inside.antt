-- States and round keys in lanes and in registers. Clauses of private functions alone cite these.
pub mod Matrix
pub mod Slots
pub mod Busy
pub mod BusyKeys
pub mod Gathered
pub mod Wide
pub mod WideKeys
pub mod LaidKeys
pub mod LaidLaws
pub mod Layouts
pub mod Held
pub mod KeyStream
