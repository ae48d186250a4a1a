use Rattle.std.proofs.Common.{◌≡◌, length}
use Rattle.std.specs.List.{All}
use Rattle.deferred_disk.proofs.run.shares_of.Given as goal

-- so many owners so far, each of the same run
abbrev pub invariant-loop : goal.invariant-loop
invariant-loop g l =
    (length l.shares.items ≡ l.counter) × All (λ share. share.value ≡ l.run.value) l.shares.items
