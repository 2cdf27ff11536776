pub mod Numbers
pub mod Stops
pub mod Moves
