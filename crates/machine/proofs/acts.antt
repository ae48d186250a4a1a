pub mod Accesses
pub mod AtOnce
pub mod Processors
pub mod Begun
pub mod Spaces
pub mod Changes
pub mod Faults
pub mod All
