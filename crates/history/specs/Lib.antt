pub mod History
pub mod Reading
pub mod Later
pub mod Stops
pub mod inside
