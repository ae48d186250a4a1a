pub mod Begun
pub mod Working
