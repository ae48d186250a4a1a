-- What follows of the definitions, for the crates above, which see no other lemma of this crate: what a frame is after
-- each change of the frames, and how many are free or in use.
pub use Rattle.frames.proofs.AreFramesLaws.{after_set}
pub use Rattle.frames.proofs.FramesLaws.{frame_at-free, frame_at-with_page_same, frame_at-with_page_other}
pub use Rattle.frames.proofs.FramesLaws.{frame_at-with_bytes_same, frame_at-with_bytes_other}
pub use Rattle.frames.proofs.FramesLaws.{frame_at-without_frame_same, frame_at-without_frame_other}
pub use Rattle.frames.proofs.FramesLaws.{page_of-with_bytes, in_use-with_bytes, length-overwrite}
pub use Rattle.frames.proofs.Listing.{has_free-counted, used_less, free_less}
