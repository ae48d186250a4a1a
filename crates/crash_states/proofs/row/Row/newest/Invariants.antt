use Rattle.std.proofs.Common.{◌≡◌, take}
use Rattle.crash_states.specs.Rows.{newest_of}
use Rattle.crash_states.proofs.row.Row.newest.Given as goal

abbrev pub invariant-loop-found : goal.invariant-loop-found
invariant-loop-found g l = l.newest ≡ newest_of (take l.found-index l.found-items)
