use Rattle.std.proofs.Common.{◌≡◌, true}
use Rattle.deferred_disk.specs.Carrying.{CarriedOut}
use Rattle.deferred_disk.specs.Deferred.{with_waiting}
use Rattle.deferred_disk.proofs.deferred.DeferredDisk.carry_out.Given as goal

-- the calls so far were made, and the rest waits
abbrev pub invariant-loop-left : goal.invariant-loop-left
invariant-loop-left g l = record {
  count : l.left ≡ l.self.waiting;
  taken : l.self ≡ with_waiting l.fn.self l.self.waiting;
  carried : CarriedOut g.D.Device l.fn.device l.fn.self true l.device l.self.waiting;
}

abbrev pub decreases-loop-left : goal.decreases-loop-left
decreases-loop-left g l = l.left
