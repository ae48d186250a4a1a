pub mod State
pub mod Calls
pub mod Histories
pub mod Runs
pub mod inside
