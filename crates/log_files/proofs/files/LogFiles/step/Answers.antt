use Rattle.std.proofs.Common.{◌≡◌, inl, inr, Result, subst, sym, ap, ◌∙◌}
use Rattle.std.specs.Prelude.{IfErr}
use Rattle.device.specs.Device.{LeavesOnly}
use Rattle.device.proofs.Public.{leaves_at_start}
use Rattle.log_commits.proofs.Public.{left_unchanged}
use Rattle.page_entry.specs.declared.refusal.Refusal.{Refusal}
use Rattle.page_entry.specs.declared.refusal.Refusal.TheVariants as refusals
use Rattle.log_commits.specs.Behind.{LeftUnchanged}
use Rattle.log_store.specs.declared.fault.Progress.{Progress}
use Rattle.log_store.specs.declared.fault.StoreFault.{StoreFault}
use Rattle.log_pager.specs.declared.fault.PagerFault.TheVariants.{Store}
use Rattle.log_pager.specs.Pager.{IsPagerOver}
use Rattle.log_files.specs.State.{LogFilesState}
use Rattle.log_files.specs.Calls.{IsFailedLogStep}
use Rattle.log_files.specs.inside.Faults.{refusal_by}
use Rattle.log_files.proofs.Faults.{step_fault}
use Rattle.log_files.proofs.Seen.{files_state_of}
use Rattle.log_files.proofs.files.LogFiles.step.Goals.{in-Ok, in-Err}
use Rattle.log_files.proofs.files.LogFiles.step.Goals as goal

pub returns-clause-failed : goal.returns-clause-failed
returns-clause-failed g c =
    let disk = g.D.Device in
    let s : LogFilesState g.row.D.Denot = files_state_of c.self.inside in
    let after : LogFilesState g.row.D.Denot = record s { pager = c.step.new.self } in
    let F : LogFilesState g.row.D.Denot → Type 0 = λ p. IsFailedLogStep disk p after in
    let R : Result Progress Refusal → Type 0 = λ r. IfErr r (λ why. why ≡ refusals.Device → F c.args.self.now) in
    elim c.match-step.branch [
      | in-Ok w ↦ subst R (sym w.result-is) tt
      | in-Err w ↦ subst R (sym w.result-is) (λ is.
          let whole = sym c.is_spent.ensures ∙ c.if-is_spent.false in
          let left = step_fault disk s c.self.invariant c.log-log.ensures.store whole w.in-Err.fault
          w.in-Err.ensures.refused in
          subst F c.self.view_is (elim left.2 [
            | inl memory ↦ absurd (let wrong = sym is ∙ w.refusal_by.ensures ∙ ap refusal_by (left.1
                ∙ ap (λ (f : StoreFault). Store f) memory.0) in cc)
            | inr failed ↦
                (let fault = left.1 ∙ ap (λ (f : StoreFault). Store f) failed.0 in
                record {
                  whole = whole;
                  may = failed.2;
                  did = w.in-Err.ensures.failed failed.2 fault;
                  spent = w.in-Err.ensures.spent fault;
                  rest = λ i. record s {
                    pager = record {
                      store = c.step.new.self.store;
                      staged = w.in-Err.ensures.staged i;
                      device = c.step.new.self.device;
                    };
                  };
                })
          ]))
    ]

pub returns-clause-leaves : goal.returns-clause-leaves
returns-clause-leaves g c = λ contents honest over.
    let disk = g.D.Device in
    let Q : LogFilesState g.row.D.Denot → Type 0 = λ v. disk.is_honest v.pager.device
    → IsPagerOver disk v.pager contents
    → LeavesOnly disk.moment disk.left_since v.pager.device c.step.new.self.device
    (LeftUnchanged v.pager.store.tail contents) in
    subst Q c.self.view_is (c.step.ensures.leaves contents) honest over

pub returns-then-is_spent-clause-leaves : goal.returns-then-is_spent-clause-leaves
returns-then-is_spent-clause-leaves g c = λ contents honest over.
    let p = c.args.self.now.pager in
    leaves_at_start (λ x left. left_unchanged p.store.tail contents x
    (over.store.holds x (g.met.D.Device.since_now p.device x left)).held)
