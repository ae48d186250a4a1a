pub mod Runs
pub mod Starts
pub mod Crashes
pub mod Survival
pub mod Public
