use Rattle.std.proofs.Common.{ℕ, ◌<◌, get_or}
use Rattle.std.specs.List.{Contains}
use Rattle.volume_codec.specs.Recovery.{Batch}
use Rattle.machine_log.proofs.shown.has_record.Given as goal

abbrev pub invariant-loop-one : goal.invariant-loop-one
invariant-loop-one g l =
    (k : ℕ) (d : Batch) → k < l.one-index → Contains (get_or l.opened k d).homes l.home → ⊥
