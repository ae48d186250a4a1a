-- Definitions that connect private code with the definitions in public contracts.
pub mod Blocks
pub mod Deferring
pub mod Waiting
