pub mod Sound
pub mod Opening
pub mod Contents
pub mod Resizing
pub mod Fields
