mod Closing
mod Gates
pub mod Public
mod Records
mod Texts
mod Alike
mod Committed
mod Crashing
mod Gate
mod Gated
mod Kept
mod Moments
mod OpenedDisk
mod Pasts
mod Reading
mod Tables
mod Times
mod Told
mod Trait
mod Working
pub mod Booting
pub mod Reopened
pub mod Standing
pub mod Surviving
