pub mod Written
pub mod Starts
pub mod Zeros
pub mod Bodies
pub mod Digests
pub mod Reading
pub mod Chains
pub mod Public
