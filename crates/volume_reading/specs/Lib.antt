pub mod Faults
pub mod Reading
pub mod Recovered
pub mod Rows
pub mod inside
pub mod Logged
pub mod Volume
