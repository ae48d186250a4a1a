use Rattle.std.proofs.Common.{◌≡◌, ◌+◌, drop}
use Rattle.crash_table.specs.Calls.{steps_before as before}
use Rattle.crash_table.proofs.first_run.steps_before.Given as goal

abbrev pub invariant-loop-i : goal.invariant-loop-i
invariant-loop-i l = before l.counts l.call ≡ l.i + before (drop l.i l.counts) l.call
