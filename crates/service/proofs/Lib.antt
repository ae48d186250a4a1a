pub mod Traces
pub mod Counting
mod Answering
mod Raises
mod Starts
