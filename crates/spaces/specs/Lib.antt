pub mod Spaces
pub mod Requests
pub mod Changes
pub mod inside
