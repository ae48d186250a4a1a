pub mod Parts
pub mod LogParts
pub mod Calls
pub mod Choices
pub mod Held
pub mod Rows
