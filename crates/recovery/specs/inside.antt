-- Definitions that connect private code with the definitions in public contracts. No public contract names them.
pub mod Carrying
pub mod Reading
pub mod Erasing
pub mod Writing
pub mod Copying
