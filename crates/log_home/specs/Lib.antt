pub mod Index
pub mod Work
