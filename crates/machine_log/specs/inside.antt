-- Definitions that connect private code with the definitions in public contracts.
pub mod Closing
pub mod Committing
pub mod Keeping
pub mod Opened
pub mod Times
pub mod Standing
