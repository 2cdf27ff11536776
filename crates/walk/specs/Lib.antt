pub mod Frames
pub mod Walks
