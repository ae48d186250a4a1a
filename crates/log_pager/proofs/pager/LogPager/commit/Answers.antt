use Rattle.std.proofs.Common.{◌≡◌, ◌≢◌, ◌↔◌, ℕ, ◌+◌, ◌*◌, List, length, true, false, refl, subst, sym, ap}
use Rattle.std.proofs.Common.{◌∙◌}
use Rattle.device.specs.Device.{LeavesOnly, Only}
use Rattle.device.proofs.Public.{leaves_weaker}
use Rattle.kept_blocks.specs.Blocks.{homes_in}
use Rattle.log_codec.specs.Log.{log_commit_blocks}
use Rattle.log_commits.specs.Calls.{DidAll}
use Rattle.log_commits.specs.declared.fault.CommitFault.TheVariants.{Device}
use Rattle.log_commits.specs.Tail.{TailValue}
use Rattle.log_commits.specs.Commit.{LeftByCommit, MayCommit, committed_to, records_in}
use Rattle.log_store.specs.declared.fault.StoreFault.TheVariants.{Commit, OutOfMemory}
use Rattle.log_store.specs.Store.{IsStoreOver, KeepsStore, RefusesStoreCommit, committing_tail, store_commit_works}
use Rattle.log_store.proofs.Public.{committing_log}
use Rattle.log_pager.specs.declared.fault.PagerFault.TheVariants.{Store}
use Rattle.log_pager.specs.Pager.{LogPagerValue, IsPagerOver, LeftByPut, contents_put, records_put}
use Rattle.log_pager.proofs.Blocks.{committed_is}
use Rattle.log_pager.proofs.Over.{store_as, pager_emptied, pager_kept, left_as, none_put, refused_in}
use Rattle.log_pager.proofs.Seen.{pager_value_of}
use Rattle.log_pager.proofs.pager.LogPager.commit.Goals.{After-commit}
use Rattle.log_pager.proofs.pager.LogPager.commit.Goals as goal

module _ (g : _) (c : After-commit g) where
  abbrev before : LogPagerValue g.row.D.Denot
  before = pager_value_of c.self.inside

  -- what holds of the lists that the store was given holds of the blocks that were put
  of_blocks : (P : List ℕ → List ℕ → ℕ → Type 0)
      → P c.deref.result.now (records_in c.deref.result.now c.deref_mut.result.now) (length c.deref_mut.result.now)
      → P (homes_in before.staged) (records_put before.staged) (4096 * log_commit_blocks (length before.staged) + 1)
  of_blocks P given =
      let room : List ℕ = c.deref_mut.result.now in
      let homes : c.deref.result.now ≡ homes_in before.staged = c.deref.ensures.value ∙ c.in-Ok.ensures.homes in
      let records : records_in c.deref.result.now room ≡ records_put before.staged =
      ap (λ (l : List ℕ). records_in l room) homes ∙ ap (records_in (homes_in before.staged)) c.deref_mut.ensures.value
      ∙ c.in-Ok.ensures.records in
      let size : length room ≡ 4096 * log_commit_blocks (length before.staged) + 1 =
      ap length c.deref_mut.ensures.value ∙ c.in-Ok.ensures.size in
      subst (λ n. P (homes_in before.staged) (records_put before.staged) n) size
      (subst (λ (l : List ℕ). P (homes_in before.staged) l (length room)) records
      (subst (λ (l : List ℕ). P l (records_in c.deref.result.now room) (length room)) homes given))

  -- what holds of the parts holds of the whole
  of_pager : (Q : LogPagerValue g.row.D.Denot → Type 0) → Q before → Q c.args.self.now
  of_pager Q is = subst Q c.self.view_is is

  leaves : (contents : ℕ → List ℕ) → g.D.Device.is_honest before.device
      → LeavesOnly g.D.Device.moment g.D.Device.left_since before.device c.commit.new.device
      (LeftByCommit (committing_tail before.store) contents c.deref.result.now
      (records_in c.deref.result.now c.deref_mut.result.now))
      → LeavesOnly g.D.Device.moment g.D.Device.left_since before.device c.commit.new.device
      (LeftByPut before.store.tail contents before.staged)
  leaves contents honest left =
      leaves_weaker (of_blocks (λ hs rs n. LeavesOnly g.D.Device.moment g.D.Device.left_since before.device
      c.commit.new.device (LeftByCommit (committing_tail before.store) contents hs rs)) left)
      (left_as before.store contents before.staged c.in-Ok.ensures.whole)

  pager_leaves : (contents : ℕ → List ℕ) → (g.D.Device.is_honest before.device
      → IsStoreOver g.D.Device before.store contents before.device
      → LeavesOnly g.D.Device.moment g.D.Device.left_since before.device c.commit.new.device
      (LeftByCommit (committing_tail before.store) contents c.deref.result.now
      (records_in c.deref.result.now c.deref_mut.result.now)))
      → (let old = c.args.self.now in g.D.Device.is_honest old.device → IsPagerOver g.D.Device old contents
      → LeavesOnly g.D.Device.moment g.D.Device.left_since old.device c.commit.new.device
      (LeftByPut old.store.tail contents old.staged))
  pager_leaves contents left =
      of_pager (λ v. g.D.Device.is_honest v.device → IsPagerOver g.D.Device v contents
      → LeavesOnly g.D.Device.moment g.D.Device.left_since v.device c.commit.new.device
      (LeftByPut v.store.tail contents v.staged))
      (λ honest over. leaves contents honest (left honest over.store))

pub returns-in-Ok-commit-clause-may : goal.returns-in-Ok-commit-clause-may
returns-in-Ok-commit-clause-may g c = λ some.
    let a = (goal.at.returns-in-Ok-commit-clause-may g c).After-commit in
    of_pager g a (λ v. MayCommit v.store.tail (homes_in v.staged) (4096 * log_commit_blocks (length v.staged) + 1))
    (of_blocks g a (λ hs rs n. MayCommit c.self.inside.store.tail hs n) c.in-Ok-commit.ensures.may)

pub returns-in-Ok-commit-clause-did : goal.returns-in-Ok-commit-clause-did
returns-in-Ok-commit-clause-did g c = λ some.
    let a = (goal.at.returns-in-Ok-commit-clause-did g c).After-commit in
    of_pager g a (λ v. DidAll g.D.Device v.device
    (store_commit_works v.store (homes_in v.staged) (records_put v.staged)) true c.commit.new.device)
    (of_blocks g a (λ hs rs n. DidAll g.D.Device c.self.inside.device
    (store_commit_works c.self.inside.store hs rs) true c.commit.new.device)
    (c.in-Ok-commit.ensures.did tt c.in-Ok-commit.ensures.may))

pub returns-in-Ok-commit-clause-honest : goal.returns-in-Ok-commit-clause-honest
returns-in-Ok-commit-clause-honest g c =
    of_pager g (goal.at.returns-in-Ok-commit-clause-honest g c).After-commit
    (λ v. g.D.Device.is_honest c.commit.new.device ↔ g.D.Device.is_honest v.device) c.commit.ensures.honest

pub returns-in-Ok-commit-clause-over : goal.returns-in-Ok-commit-clause-over
returns-in-Ok-commit-clause-over g c = λ contents honest over.
    let disk = g.D.Device in
    let a = (goal.at.returns-in-Ok-commit-clause-over g c).After-commit in
    let old : LogPagerValue g.row.D.Denot = before g a in
    let after : LogPagerValue g.row.D.Denot =
    record { store = c.commit.new.self; staged = c.clear.new.self; device = c.commit.new.device } in
    let newer : ℕ → List ℕ = contents_put contents old.staged in
    of_pager g a (λ v. disk.is_honest v.device → IsPagerOver disk v contents
    → IsPagerOver disk after (contents_put contents v.staged))
    (λ honest over.
    let there = of_blocks g a (λ hs rs n. IsStoreOver disk after.store (committed_to contents hs rs) after.device)
    (c.in-Ok-commit.ensures.store contents honest over.store) in
    let log = ap (λ (t : TailValue). t.log) c.in-Ok-commit.ensures.noted.tail ∙ committing_log old.store in
    pager_emptied disk old after contents log
    c.commit.ensures.len newer c.clear.ensures
    (store_as disk (committed_to contents (homes_in old.staged) (records_put old.staged)) newer
    (λ b. sym (committed_is contents old.staged c.in-Ok.ensures.whole b)) after.store after.device there) over)
    honest over

pub returns-in-Ok-commit-clause-sure : goal.returns-in-Ok-commit-clause-sure
returns-in-Ok-commit-clause-sure g c = λ contents honest over some.
    of_pager g (goal.at.returns-in-Ok-commit-clause-sure g c).After-commit
    (λ v. g.D.Device.is_honest v.device → IsPagerOver g.D.Device v contents
    → Only (g.D.Device.may_leave c.commit.new.device) (g.D.Device.seen c.commit.new.device))
    (λ honest over. (c.in-Ok-commit.ensures.leaves contents honest over.store).durable refl) honest over

pub returns-in-Ok-commit-clause-leaves : goal.returns-in-Ok-commit-clause-leaves
returns-in-Ok-commit-clause-leaves g c = λ contents.
    pager_leaves g (goal.at.returns-in-Ok-commit-clause-leaves g c).After-commit contents
    (λ honest over. (c.in-Ok-commit.ensures.leaves contents honest over).crash)

pub returns-clause-leaves : goal.returns-clause-leaves
returns-clause-leaves g c = λ contents.
    pager_leaves g (goal.at.returns-clause-leaves g c).After-commit contents
    (λ honest over. (c.in-Err-commit.ensures.leaves contents honest over).crash)

pub returns-clause-refused : goal.returns-clause-refused
returns-clause-refused g c =
    let a = (goal.at.returns-clause-refused g c).After-commit in
    let fault = c.in-Err-commit.fault in
    of_pager g a (λ v. RefusesStoreCommit v.store (homes_in v.staged)
    (4096 * log_commit_blocks (length v.staged) + 1) fault)
    (of_blocks g a (λ hs rs n. RefusesStoreCommit c.self.inside.store hs n fault) c.in-Err-commit.ensures.refused)

pub returns-clause-failed : goal.returns-clause-failed
returns-clause-failed g c = λ is.
    let a = (goal.at.returns-clause-failed g c).After-commit in
    let fault_is : c.in-Err-commit.fault ≡ Commit Device = cc in
    let other : c.in-Err-commit.fault ≢ OutOfMemory = λ same. absurd (cc) in
    let may = subst (RefusesStoreCommit c.self.inside.store c.deref.result.now (length c.deref_mut.result.now)) fault_is
    c.in-Err-commit.ensures.refused in
    of_pager g a (λ v. DidAll g.D.Device v.device
    (store_commit_works v.store (homes_in v.staged) (records_put v.staged)) false c.commit.new.device)
    (of_blocks g a (λ hs rs n. DidAll g.D.Device c.self.inside.device
    (store_commit_works c.self.inside.store hs rs) false c.commit.new.device) (c.in-Err-commit.ensures.did other may))

pub returns-clause-unchanged : goal.returns-clause-unchanged
returns-clause-unchanged g c = λ other.
    of_pager g (goal.at.returns-clause-unchanged g c).After-commit
    (λ v. KeepsStore v.store c.commit.new.self × (c.commit.new.device ≡ v.device))
    (c.in-Err-commit.ensures.unchanged (λ is. other (ap Store is)))

pub returns-clause-spent : goal.returns-clause-spent
returns-clause-spent g c = λ is.
    let fault_is : c.in-Err-commit.fault ≡ Commit Device = cc in
    of_pager g (goal.at.returns-clause-spent g c).After-commit
    (λ v. c.commit.new.self.tail ≡ record v.store.tail { spent = true }) (c.in-Err-commit.ensures.spent fault_is)

pub returns-clause-honest : goal.returns-clause-honest
returns-clause-honest g c =
    of_pager g (goal.at.returns-clause-honest g c).After-commit
    (λ v. g.D.Device.is_honest c.commit.new.device ↔ g.D.Device.is_honest v.device) c.commit.ensures.honest

pub returns-clause-stays : goal.returns-clause-stays
returns-clause-stays g c = λ contents honest over other.
    let disk = g.D.Device in
    let a = (goal.at.returns-clause-stays g c).After-commit in
    let after : LogPagerValue g.row.D.Denot =
    record { store = c.commit.new.self; staged = c.self.inside.staged; device = c.commit.new.device } in
    let not_device : c.in-Err-commit.fault ≢ Commit Device = λ is. other (ap Store is) in
    of_pager g a (λ v. disk.is_honest v.device → IsPagerOver disk v contents → IsPagerOver disk after contents)
    (λ honest over. pager_kept disk (before g a) after contents
    (ap (λ (t : TailValue). t.log) (c.in-Err-commit.ensures.unchanged not_device).0.tail) c.commit.ensures.len refl
    (c.in-Err-commit.ensures.kept contents honest over.store not_device) over) honest over

pub returns-then-count-eq0-clause-over : goal.returns-then-count-eq0-clause-over
returns-then-count-eq0-clause-over g c = λ contents honest over.
    let P : LogPagerValue g.row.D.Denot → Type 0 = λ v. length v.staged ≡ 0 in
    let none : length c.self.inside.staged ≡ 0 = sym c.len-count.ensures ∙ c.if-count-eq0.true in
    none_put g.D.Device c.args.self.now contents (subst P c.self.view_is none) over

pub returns-then-count-eq0-clause-leaves : goal.returns-then-count-eq0-clause-leaves
returns-then-count-eq0-clause-leaves g c = λ contents honest over.
    refused_in g.D.Device c.self.view_is c.are_whole.ensures g.met.D.Device.since_now contents over

pub returns-then-count-gt65535-clause-leaves : goal.returns-then-count-gt65535-clause-leaves
returns-then-count-gt65535-clause-leaves g c = λ contents honest over.
    refused_in g.D.Device c.self.view_is c.are_whole.ensures g.met.D.Device.since_now contents over

pub returns-in-Err-clause-leaves : goal.returns-in-Err-clause-leaves
returns-in-Err-clause-leaves g c = λ contents honest over.
    refused_in g.D.Device c.self.view_is c.are_whole.ensures g.met.D.Device.since_now contents over
