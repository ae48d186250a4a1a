-- What follows of the definitions, for the crates above, which take no lemma of this crate from anywhere else: why a
-- volume is refused, what a log that was found recovers to, the lengths, and the newest record of a home block.
pub use Rattle.log_opening.proofs.Volumes.{refuses_look, refuses_lengths, found_recovers, lengths_home}
pub use Rattle.log_opening.proofs.Keeping.{placed_at, split_at}
pub use Rattle.log_opening.proofs.Newest.{newest_next}
