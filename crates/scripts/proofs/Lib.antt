pub mod AllOf
mod Names
