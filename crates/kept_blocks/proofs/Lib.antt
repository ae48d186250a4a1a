pub mod Putting
pub mod Changing
pub mod Whole
pub mod Public
