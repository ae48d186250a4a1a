use Rattle.std.proofs.Common.{◌≡◌, ◌≤◌, length, take}
use Rattle.service.specs.Marks.{has_unmarked}
use Rattle.service.proofs.raising.has_unmarked.Given as goal

abbrev pub invariant-loop-left : goal.invariant-loop-left
invariant-loop-left l = (l.left ≤ length l.trace) × (has_unmarked (take l.left l.trace) ≡ has_unmarked l.trace)

abbrev pub decreases-loop-left : goal.decreases-loop-left
decreases-loop-left l = l.left
