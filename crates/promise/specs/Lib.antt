pub mod Vocabulary
pub mod Promise
pub mod Worked
pub mod Turns
