pub mod Listening
pub mod Engine
pub mod Survival
