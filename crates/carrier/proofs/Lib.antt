pub mod Calls
pub mod Held
pub mod Slices
mod Shelved
