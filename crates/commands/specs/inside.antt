-- Definitions that connect private code with the definitions in its contracts.
-- Definitions that connect private code with the definitions in public contracts.
pub mod Health
pub mod Failure
pub mod Replay
pub mod Greeting
pub mod Tracing
