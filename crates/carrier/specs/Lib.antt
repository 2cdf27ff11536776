pub mod Carriers
pub mod Lifetimes
pub mod Records
pub mod Shelves
