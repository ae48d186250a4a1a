pub mod Moments
pub mod Done
mod Fitting
pub mod Outcomes
pub mod Overlays
pub mod Patches
pub mod Ranges
pub mod Replay
mod Spoiling
pub mod Public
