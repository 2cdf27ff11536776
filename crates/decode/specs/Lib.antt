pub mod Kinds
pub mod Words
pub mod Decoding
