pub mod Cables
