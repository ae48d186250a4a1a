pub mod Carrying
pub mod Deferred
pub mod Lent
pub mod inside
