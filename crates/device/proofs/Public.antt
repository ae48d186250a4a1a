-- What follows of the definitions, for the crates above, which take no lemma of this crate from anywhere else: what a
-- crash leaves over several calls, and what follows of what was done;
pub use Rattle.device.proofs.Moments.{leaves_at_start, leaves_weaker, leaves_then}
pub use Rattle.device.proofs.Done.{did_nothing, did_as, done_seen, done_calls, failed_seen, failed_calls}
-- and for a disk of another crate that keeps a record of its writes and syncs: what a write changes in a list, what the
-- record of a disk in memory says, and what each call of such a disk promises.
pub use Rattle.device.proofs.Ranges.{replaced_before, replaced_within, replaced_after}
pub use Rattle.device.proofs.Ranges.{length-written, written_before, written_within, written_after}
pub use Rattle.device.proofs.Ranges.{torn_none, torn_twice, torn_before, torn_after, torn_from_none}
pub use Rattle.device.proofs.Patches.{length-content_after, part_at, length-part, within_wider}
pub use Rattle.device.proofs.Replay.{changes_of-push, changes_of-append, changes_of-split, changes_of-more}
pub use Rattle.device.proofs.Replay.{length-changes_of, within_at, within_newer, within_older, any_torn}
pub use Rattle.device.proofs.Overlays.{write_told, sync_told}
pub use Rattle.device.proofs.Outcomes.{ok_map, err_map, on_ok}
