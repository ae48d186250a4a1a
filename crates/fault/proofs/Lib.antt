mod FixLaws
mod ServedLaws
mod FixKept
pub mod Public
