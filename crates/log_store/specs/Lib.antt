pub mod Store
pub mod Step
pub mod Needs
pub mod Sound
pub mod Rounds
