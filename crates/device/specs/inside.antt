-- Definitions that connect private code with the definitions in public contracts.
pub mod Codes
pub mod Fitted
pub mod Laws
pub mod Logged
pub mod Replay
pub mod Spoiling
