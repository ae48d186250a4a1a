use Rattle.std.proofs.Common.{◌+◌, ◌∷◌, Bool, false, subst, length, arith}
use Rattle.device.specs.Memory.DiskChange.{sync}
use Rattle.machine_log.specs.inside.Keeping.{IsKeptDisk}
use Rattle.machine_log.proofs.Kept.{kept_sync, as_told}
use Rattle.machine_log.proofs.parts.DiskParts.settle.Goals as goal

pub invariant_of-self : goal.invariant_of-self
invariant_of-self g c =
    let d = c.self.inside in
    let past = c.with_sync-self-inside in
    let K : Bool → Type 0 = λ failed. IsKeptDisk g.D.Device d.volume d.table d.log_start d.past.first d.past.changes
    d.past.moments d.pager d.shown
    failed in
    let kept : K false = subst K c.if-self.false c.self.invariant in
    as_told g.D.Device d.volume d.table d.log_start d.past.first (sync ∷ d.past.changes) d.past.moments d.pager d.shown
    d.failed
    false
    (length d.past.changes + 1) past.result.first past.result.changes past.result.moments c.device.result.now
    past.ensures
    c.device.ensures c.if-self.false (omega arith)
    (kept_sync g.D.Device g.met.D.Device.since_now g.met.D.Device.now_is_since d.volume d.table d.log_start d.past.first
    d.past.changes
    d.past.moments d.pager d.shown kept)
