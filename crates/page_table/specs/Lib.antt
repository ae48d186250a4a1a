pub mod Table
pub mod Bits
pub mod inside
