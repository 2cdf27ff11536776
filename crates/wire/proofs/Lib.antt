pub mod Order
pub mod Widths
