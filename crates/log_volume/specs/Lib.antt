pub mod Super
pub mod Files
