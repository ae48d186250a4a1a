pub mod Trace
pub mod Marks
pub mod Serving
pub mod Gathering
pub mod inside
