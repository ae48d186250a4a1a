use Rattle.std.proofs.Common.{◌≡◌, Bool, true, false, not, refl, subst}
use Rattle.machine_log.specs.Laws.{Works}
use Rattle.machine_log.specs.inside.Keeping.{IsKeptDisk}
use Rattle.machine_log.proofs.Working.{works_of}
use Rattle.machine_log.proofs.parts.DiskParts.works.Goals as goal

not_failed : (failed : Bool) → not failed ≡ true → failed ≡ false
not_failed false is = refl
not_failed true is = absurd (cc)

pub returns : goal.returns
returns g c = λ is.
    let d = c.self.inside in
    let K : Bool → Type 0 = λ failed. IsKeptDisk g.D.Device d.volume d.table d.log_start d.past.first d.past.changes
    d.past.moments d.pager d.shown failed in
    subst (Works g.D.Device) c.self.view_is (works_of g.D.Device g.met.D.Device.since_now g.met.D.Device.now_is_since
    c.one_reading.ensures.contents c.one_reading.ensures.files d.volume d.table d.log_start d.past.first d.past.changes
    d.past.moments d.pager d.shown d.calls d.faults (subst K (not_failed d.failed is) c.self.invariant))
