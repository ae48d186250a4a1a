mod Blocks
mod Over
mod Seen
pub mod Public
