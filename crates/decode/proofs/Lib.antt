pub mod Chunks
pub mod Places
