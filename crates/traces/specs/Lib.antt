pub mod Traces
pub mod Lines
pub mod TraceFault
pub mod inside
