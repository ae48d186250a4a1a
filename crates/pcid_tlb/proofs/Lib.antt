mod TlbLaws
pub mod Public
