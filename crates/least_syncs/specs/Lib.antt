pub mod Commit
pub mod Examples
