pub mod Fault
pub mod Fixing
pub mod inside
