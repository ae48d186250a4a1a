pub mod Formatting
pub mod NewFile
