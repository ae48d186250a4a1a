use Rattle.std.proofs.Common.{◌≡◌, ◌≤◌}
use Rattle.std.specs.Arc.{arc_value}
use Rattle.std.specs.Vec.{vec_len, vec_capacity}
use Rattle.horizon.specs.Seen.{nothing_seen}
use Rattle.service.proofs.starting.seats_for.Given as goal

abbrev pub invariant-loop : goal.invariant-loop
invariant-loop g l = (l.seen ≡ nothing_seen (arc_value l.room).horizon) × (vec_len l.seats ≡ l.counter)
    × (l.count ≤ vec_capacity l.seats)
