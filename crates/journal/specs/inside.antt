pub mod Sound
pub mod Queued
pub mod Tied
pub mod Consistent
pub mod Room
pub mod Finishing
pub mod Alone
