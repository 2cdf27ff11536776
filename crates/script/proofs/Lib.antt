pub mod Listing
pub mod Starting
