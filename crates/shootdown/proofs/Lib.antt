mod Flags
mod Words
mod Queues
mod Notified
mod Fresh
mod Each
mod Sent
mod Narrowing
mod ProcessorLaws
mod ShootdownLaws
mod CoherenceLaws
pub mod Public
