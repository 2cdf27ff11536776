pub mod Elements
pub mod Gaps
pub mod Kept
pub mod Joins
