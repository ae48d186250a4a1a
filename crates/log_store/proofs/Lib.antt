mod Stores
mod Cases
mod Steps
mod Sound
mod Staying
mod First
mod Ended
mod Ending
pub mod Public
