pub mod Access
pub mod AtOnce
pub mod Keeping
pub mod inside
