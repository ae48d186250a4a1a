pub mod Blank
pub mod Calls
pub mod Public
mod Zeros
