use Rattle.std.proofs.Common.{◌≡◌, ◌+◌, ◌<◌, ◌^◌, drop}
use Rattle.recovery.specs.inside.Reading.{batches_of, carrying_all}
use Rattle.recovery.proofs.opening.opening_calls.Given as goal

abbrev pub invariant-loop-journal : goal.invariant-loop-journal
invariant-loop-journal g l = l.initial.all + carrying_all (batches_of l.found) < 2 ^ 64
    → l.all + carrying_all (batches_of (drop l.journal-index l.found))
    ≡ l.initial.all + carrying_all (batches_of l.found)
