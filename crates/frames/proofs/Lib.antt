mod AreFramesLaws
mod FramesLaws
pub mod Public
mod Listing
mod Orders
mod PageLemmas
mod WholePages
