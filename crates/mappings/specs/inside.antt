pub mod Listed
pub mod Edits
