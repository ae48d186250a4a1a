use Rattle.std.proofs.Common.{◌≡◌, ℕ, ◌<◌, false, length, get_or}
use Rattle.journal.specs.Stage.{has_writes}
use Rattle.journal.specs.WriteOut.{WriteOut}
use Rattle.journal.specs.WriteOuts.{is_at}
use Rattle.journal.proofs.write_outs.WriteOuts.writer_place.Given as goal

-- none before this place writes
abbrev pub invariant-loop-place : goal.invariant-loop-place
invariant-loop-place g l = record {
  before : (i : ℕ) (d : WriteOut) → i < l.place → i < length l.self.batches
      → is_at has_writes (get_or l.self.batches i d) ≡ false;
  all : l.place-end ≡ length l.self.batches;
}
