pub mod Places
pub mod Judgement
pub mod State
pub mod inside
