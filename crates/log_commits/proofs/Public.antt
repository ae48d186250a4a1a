-- What follows of the definitions, for the crates above, which take no lemma of this crate from anywhere else: blocks
-- round the ring, the end of a chain, which home blocks commits have, what a
-- commit keeps, and what bytes recover to by the commits that were made.
pub use Rattle.log_commits.proofs.Places.{block_round, block_low, same_block, length-block}
pub use Rattle.log_commits.proofs.Moved.{end_is, end_more}
pub use Rattle.log_commits.proofs.Written.{logged_cases, newest_cases}
pub use Rattle.log_commits.proofs.Committing.{committed_cases, logged_more, logged_last, high_kept, ready_kept}
pub use Rattle.log_commits.proofs.Moving.{is_failed, leaves_as_before}
pub use Rattle.log_commits.proofs.Told.{recovers, recovers_by_byte, left_unchanged, tells_by_byte, told_end, told_next}
pub use Rattle.log_commits.proofs.Told.{ended_same, unchanged_by_digest, up_to}
pub use Rattle.log_commits.proofs.Kept.{length-start_text}
pub use Rattle.log_commits.proofs.Left.{held_at_start, left_before}
pub use Rattle.log_commits.proofs.Works.{did_one}
