pub mod Entry
pub mod Refusal
pub mod inside
