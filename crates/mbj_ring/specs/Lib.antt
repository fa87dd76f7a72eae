pub mod Ring
pub mod RingLends
pub mod Inside
