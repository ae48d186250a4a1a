pub mod State
pub mod Calls
pub mod inside
pub mod Needs
