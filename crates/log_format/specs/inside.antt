-- Definitions that connect the private code of this crate to its public definitions. No public contract names them.
pub mod Full
pub mod Copying
