-- What follows of the definitions, for `machine`, which takes no lemma of this crate from anywhere else: what a
-- write-out and a device stand for after each step, which stage comes when, and which batch is the current one.
pub use Rattle.journal.proofs.KeptConsistent.{consistent_first, consistent_begun, consistent_within}
pub use Rattle.journal.proofs.KeptConsistent.{consistent_after, consistent_failed, consistent_left, consistent_other}
pub use Rattle.journal.proofs.Stages.{IsAt, stage_is, stage_at-is, after_committing, early_calls, all_calls}
pub use Rattle.journal.proofs.Batches.{current-oldest, current-newest, advanced-newest}
pub use Rattle.journal.proofs.Batches.{newest_of, committed_parts, committed-at, batch_before}
pub use Rattle.journal.proofs.Answering.{stage_committed, current_committed, done_committed, older_committed}
pub use Rattle.journal.proofs.Leaving.{recovers_of}
-- For a volume that is kept in memory: blocks that recovery doesn't read, gates that open and close, and what a search
-- in home blocks finds.
pub use Rattle.journal.proofs.Alls.{all_at, all_back}
pub use Rattle.journal.proofs.Changes.{SameBut, same_but_torn, torn-written, block-written, first-written}
pub use Rattle.journal.proofs.RecoveredBlocks.{AreHome}
pub use Rattle.journal.proofs.Recovering.{agrees_recovers, unread_agrees, unread_record, unread_descriptor}
pub use Rattle.journal.proofs.Recovering.{unread_home, gate_opens, gate_closes, has_front}
pub use Rattle.journal.proofs.Places.{gate-below, descriptor-below, record-below, gates_apart}
pub use Rattle.journal.proofs.Places.{gate_no_descriptor, gate_no_record}
pub use Rattle.journal.proofs.Written.{searched_rising, home_at, descriptor_there}
