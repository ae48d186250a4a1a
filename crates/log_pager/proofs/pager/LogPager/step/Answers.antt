use Rattle.std.proofs.Common.{refl, subst, sym}
use Rattle.std.specs.Prelude.{Result, OnOk}
use Rattle.device.specs.Device.{LeavesOnly}
use Rattle.log_commits.specs.Behind.{LeftUnchanged}
use Rattle.log_store.specs.Store.{IsStoreOver}
use Rattle.log_store.specs.declared.fault.Progress.{Progress}
use Rattle.log_pager.specs.declared.fault.PagerFault.{PagerFault}
use Rattle.log_pager.specs.Pager.{LogPagerValue, IsPagerOver}
use Rattle.log_pager.proofs.Over.{pager_kept, steps_log}
use Rattle.log_pager.proofs.Seen.{pager_value_of}
use Rattle.log_pager.proofs.pager.LogPager.step.Goals.{in-Ok, in-Err}
use Rattle.log_pager.proofs.pager.LogPager.step.Goals as goal

pub returns-clause-leaves : goal.returns-clause-leaves
returns-clause-leaves g c = λ contents honest over.
    let disk = g.D.Device in
    let Q : LogPagerValue g.row.D.Denot → Type 0 = λ v. disk.is_honest v.device
    → IsStoreOver disk v.store contents v.device → LeavesOnly disk.moment disk.left_since v.device c.step.new.device
    (LeftUnchanged v.store.tail contents) in
    subst Q c.self.view_is (c.step.ensures.over.leaves contents) honest over.store

pub returns-clause-over : goal.returns-clause-over
returns-clause-over g c = λ contents honest over.
    let disk = g.D.Device in
    let new : LogPagerValue g.row.D.Denot =
    record { store = c.step.new.self; staged = c.self.inside.staged; device = c.step.new.device } in
    let R : Result Progress PagerFault → Type 0 = λ r. OnOk r (IsPagerOver disk new contents) in
    let Q : LogPagerValue g.row.D.Denot → Type 0 = λ v. disk.is_honest v.device → IsPagerOver disk v contents
    → R c.match-step.result in
    subst Q c.self.view_is (λ honest over. elim c.match-step.branch [
      | in-Ok w ↦ subst R (sym w.result-is) (pager_kept disk (pager_value_of c.self.inside) new contents
          (steps_log c.self.inside.store c.self.inside.store.stage c.step.new.self w.in-Ok.progress
          w.in-Ok.ensures.step.value) w.in-Ok.ensures.step.len refl
          (w.in-Ok.ensures.over.store contents honest over.store) over)
      | in-Err w ↦ subst R (sym w.result-is) tt
    ]) honest over
