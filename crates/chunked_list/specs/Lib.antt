pub mod List
pub mod inside
