pub mod Reading
pub mod Histories
pub mod Marks
pub mod Bytes
pub mod Newest
pub mod Left
pub mod Making
pub mod Ended
mod Contents
pub mod Counted
pub mod Public
mod LogEnded
mod Shown
mod LogLeft
