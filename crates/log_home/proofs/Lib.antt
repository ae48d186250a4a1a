mod Chained
mod Entries
mod Steps
mod Kept
pub mod Public
