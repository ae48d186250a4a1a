pub mod Boxed
pub mod Cases
pub mod Opened
pub mod Opening
pub mod Journals
pub mod Logs
pub mod Reading
