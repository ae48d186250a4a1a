pub mod Room
pub mod inside
