pub mod Views
pub mod AsCore
pub mod Moves
pub mod Laws
pub mod Looks
pub mod Rule
pub mod Seats
pub mod Inside
