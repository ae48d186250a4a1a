pub mod Taking
pub mod Left
pub mod Published
