use Rattle.std.proofs.Common.{ℕ, ◌<◌, get_or}
use Rattle.std.specs.List.{Contains}
use Rattle.journal.specs.inside.Queued.{QueuedWriteOut}
use Rattle.journal.proofs.write_outs.WriteOuts.has_block.Given as goal

abbrev pub invariant-loop-one : goal.invariant-loop-one
invariant-loop-one g l =
    (k : ℕ) (d : QueuedWriteOut) → k < l.one-index → Contains (get_or l.one-items k d).write_out.batch.homes l.home → ⊥
