pub mod Driver
pub mod Programs
pub mod inside
