pub mod Checkpoint
pub mod Resizing
pub mod Backing
pub mod inside
