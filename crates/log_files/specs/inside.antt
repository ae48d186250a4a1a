pub mod Sound
pub mod Faults
pub mod Fields
