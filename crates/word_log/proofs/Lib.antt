mod Logged
mod Quads
