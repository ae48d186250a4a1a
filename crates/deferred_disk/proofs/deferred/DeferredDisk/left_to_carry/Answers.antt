use Rattle.std.proofs.Common.{◌≤◌, length, subst}
use Rattle.deferred_disk.specs.Deferred.{Deferred}
use Rattle.deferred_disk.proofs.Deferring.{few_wait}
use Rattle.deferred_disk.proofs.deferred.DeferredDisk.left_to_carry.Goals as goal

pub returns-clause-few : goal.returns-clause-few
returns-clause-few g c = subst (λ (d : Deferred). d.waiting ≤ length d.changes) c.self.view_is
    (few_wait c.self.inside.log.items c.self.inside.past.changes c.self.invariant.0.waits)
