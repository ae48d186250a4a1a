mod Tables
mod Fresh
mod Works
mod Laid
mod Finished
mod Made
mod Crash
pub mod Public
mod Filled
mod Begun
mod Migrated
