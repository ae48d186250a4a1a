pub mod Codes
pub mod Held
pub mod Opening
pub mod Journals
pub mod Logs
pub mod Told
pub mod Requests
