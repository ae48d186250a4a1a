pub mod Silent
pub mod Entries
pub mod Kept
