use Rattle.std.proofs.Common.{◌≡◌, ◌≢◌, ℕ, List, [], None, inl, inr, subst, sym, ap, ◌∙◌}
use Rattle.device.specs.Device.{LeavesOnly}
use Rattle.device.specs.declared.device.Device.{Ghosts}
use Rattle.kept_blocks.specs.Blocks.{AreWholeBlocks}
use Rattle.log_pager.specs.declared.fault.PagerFault.{PagerFault}
use Rattle.log_pager.proofs.Public.{put_refused}
use Rattle.log_pager.specs.Pager.{IsPagerOver, LeftByPut, LogPagerValue, RefusesPagerCommit, contents_put}
use Rattle.log_files.specs.State.{LogFilesState}
use Rattle.log_files.specs.Calls.{IsFailedLogCommit, log_commit_refusal}
use Rattle.log_files.specs.inside.Faults.{refusal_by}
use Rattle.log_files.proofs.Faults.{commit_fault}
use Rattle.log_files.proofs.Seen.{files_state_of}
use Rattle.log_files.proofs.files.LogFiles.commit.Goals.{After-commit}
use Rattle.log_files.proofs.files.LogFiles.commit.Goals as goal

-- what a crash within a commit to this device leaves
abbrev LeavesPut : {D : Type 0} → Ghosts D → (ℕ → List ℕ) → D → LogFilesState D → Type 0
LeavesPut disk contents new s = disk.is_honest s.pager.device → IsPagerOver disk s.pager contents
    → LeavesOnly disk.moment disk.left_since s.pager.device new
    (LeftByPut s.pager.store.tail contents s.pager.staged)

leaves_put : (g : _) (c : After-commit g) (contents : ℕ → List ℕ)
    → LeavesPut g.D.Device contents c.commit.new.self.device c.args.self.now
leaves_put g c contents =
    subst (LeavesPut g.D.Device contents c.commit.new.self.device) c.self.view_is (c.commit.ensures.leaves contents)

-- what was committed
abbrev PutsOver : {D : Type 0} → Ghosts D → (ℕ → List ℕ) → LogPagerValue D → LogFilesState D → Type 0
PutsOver disk contents new s = disk.is_honest s.pager.device → IsPagerOver disk s.pager contents
    → IsPagerOver disk new (contents_put contents s.pager.staged)

pub returns-in-Ok-clause-over : goal.returns-in-Ok-clause-over
returns-in-Ok-clause-over g c = λ contents.
    subst (PutsOver g.D.Device contents c.commit.new.self) c.self.view_is (c.in-Ok.ensures.over contents)

pub returns-in-Ok-clause-leaves : goal.returns-in-Ok-clause-leaves
returns-in-Ok-clause-leaves g c = leaves_put g (goal.at.returns-in-Ok-clause-leaves g c).After-commit

pub returns-in-Err-clause-leaves : goal.returns-in-Err-clause-leaves
returns-in-Err-clause-leaves g c = leaves_put g (goal.at.returns-in-Err-clause-leaves g c).After-commit

pub returns-in-Err-clause-failed : goal.returns-in-Err-clause-failed
returns-in-Err-clause-failed g c = λ is.
    let disk = g.D.Device in
    let s : LogFilesState g.row.D.Denot = files_state_of c.self.inside in
    let after : LogFilesState g.row.D.Denot = record s { pager = c.commit.new.self } in
    let F : LogFilesState g.row.D.Denot → Type 0 = λ p. IsFailedLogCommit disk p after in
    let free : log_commit_refusal s ≡ None =
    subst (λ (p : LogFilesState g.row.D.Denot). log_commit_refusal p ≡ None) (sym c.self.view_is)
    c.in_ok-judge_commit.ensures.ok in
    let some : s.pager.staged ≢ [] = λ e. absurd (let idle = (c.in-Err.ensures.idle e).0 in cc) in
    subst F c.self.view_is (elim (commit_fault disk s c.self.invariant free some c.in-Err.fault
    c.in-Err.ensures.refused) [
      | inl memory ↦ absurd (let wrong = sym is ∙ c.refusal_by.ensures ∙ ap refusal_by memory in cc)
      | inr fault ↦ record {
        may = subst (λ (f : PagerFault). RefusesPagerCommit disk s.pager f) fault c.in-Err.ensures.refused;
        did = c.in-Err.ensures.failed fault;
        spent = c.in-Err.ensures.spent fault;
        rest = λ i. record s {
          pager = record {
            store = c.commit.new.self.store;
            staged = c.in-Err.ensures.kept i;
            device = c.commit.new.self.device;
          };
        };
      }
    ])

pub returns-in_err-judge_commit-clause-leaves : goal.returns-in_err-judge_commit-clause-leaves
returns-in_err-judge_commit-clause-leaves g c = λ contents honest over.
    let W : LogFilesState g.row.D.Denot → Type 0 = λ s. AreWholeBlocks s.pager.staged in
    put_refused g.D.Device c.args.self.now.pager contents (subst W c.self.view_is c.are_whole.ensures)
    (g.met.D.Device.since_now c.args.self.now.pager.device) over
