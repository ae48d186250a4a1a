use Rattle.std.proofs.Common.{ℕ, ◌<◌}
use Rattle.service.specs.Gathering.{IsAmong}
use Rattle.service.proofs.gathering.are_all.Given as goal

abbrev pub invariant-loop-p : goal.invariant-loop-p
invariant-loop-p g l = (q : ℕ) → q < l.p → IsAmong l.cpus q
