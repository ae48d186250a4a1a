pub mod Lowered
pub mod Keeping
pub mod Resized
pub mod Crashes
pub mod Numbers
pub mod Runs
pub mod Public
