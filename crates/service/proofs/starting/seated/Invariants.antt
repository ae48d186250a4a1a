use Rattle.std.proofs.Common.{ℕ, ◌≡◌, ◌+◌, ◌<◌, ◌≤◌, Some, length}
use Rattle.std.specs.Prelude.{slice_get}
use Rattle.std.specs.Vec.{vec_len, vec_capacity}
use Rattle.service.specs.Gathering.{idle_cpu}
use Rattle.service.proofs.starting.seated.Given as goal

abbrev pub invariant-loop-p : goal.invariant-loop-p
invariant-loop-p g l = (vec_len l.seats + l.p ≡ l.count) × (l.all.parts + l.p ≡ l.count) × (l.all.amount ≡ 0)
    × (l.count ≤ vec_capacity l.cpus)
    × (length l.cpus.items ≡ l.p) × ((i : ℕ) → i < l.p → slice_get l.cpus.items i ≡ Some (idle_cpu i))
