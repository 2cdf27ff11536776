pub mod Words
pub mod Windows
pub mod Readings
pub mod Commands
pub mod Frames
pub mod Ends
pub mod FirstFault
pub mod Firmware
