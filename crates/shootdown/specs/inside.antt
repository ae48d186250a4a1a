pub mod Notifying
pub mod Flags
