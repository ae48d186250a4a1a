pub mod Asked
pub mod Fresh
pub mod Formatting
pub mod inside
pub mod Migration
