pub mod Notes
pub mod Resized
