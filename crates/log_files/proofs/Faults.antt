-- Which faults of its pager are left for a commit or a step.
use Rattle.std.proofs.Common.{◌≡◌, ◌≢◌, ◌⊎◌, ℕ, ◌+◌, ◌*◌, ◌<◌, ◌≤◌, ◌^◌, Bool, true, false, List, [], ◌∷◌}
use Rattle.std.proofs.Common.{length, Option, Some, None, refl, sym, ap, subst, arith, inl, inr}
use Rattle.std.specs.Prelude.{MatchBool, ◌||◌, ◌&&◌, not, nat_lt, ◌==◌}
use Rattle.std.proofs.lemmas.Bool.{cases_Bool}
use Rattle.std.proofs.lemmas.Bool.Decides.{nat_tests}
use Rattle.std.proofs.lemmas.List.{length-map}
use Rattle.device.specs.declared.device.Device.{Ghosts}
use Rattle.page_entry.specs.declared.refusal.Refusal.TheVariants as refusals
use Rattle.volume_codec.specs.Descriptor.{RiseWithin}
use Rattle.kept_blocks.specs.Blocks.{Blocks, homes_in}
use Rattle.pager.specs.Calls.{first_reason, reason_if}
use Rattle.log_codec.specs.Log.{LogValue, IsCommitSize, first_log_home, log_commit_blocks}
use Rattle.log_codec.specs.Chain.{spare_blocks}
use Rattle.log_commits.specs.Tail.{TailValue}
use Rattle.log_commits.specs.declared.fault.CommitFault.{CommitFault}
use Rattle.log_commits.specs.declared.fault.CommitFault.TheVariants as commits
use Rattle.log_commits.specs.declared.behind.MoveFault.{MoveFault}
use Rattle.log_commits.specs.declared.behind.MoveFault.TheVariants as moves
use Rattle.log_commits.specs.Behind.{MayMove, RefusesMove, RefusesSure}
use Rattle.log_home.specs.declared.index.Newest.{Newest}
use Rattle.log_home.specs.Index.{Entries, find_in}
use Rattle.log_home.specs.Work.{HomeWorkValue, MayStep, RefusesStep, old_copy, copy_for, next_copy}
use Rattle.log_store.specs.declared.stage.HomeStage.{HomeStage}
use Rattle.log_store.specs.declared.stage.HomeStage.TheVariants.{Resting, Copying, Written, Sure}
use Rattle.log_store.specs.declared.fault.StoreFault.{StoreFault}
use Rattle.log_store.specs.declared.fault.StoreFault.TheVariants as stores
use Rattle.log_store.specs.Store.{StoreValue, RefusesStepBy, MayStepBy}
use Rattle.log_store.specs.Sound.{IsNoted, IsOfLog, AreOfLog, IsStore}
use Rattle.log_pager.specs.declared.fault.PagerFault.{PagerFault}
use Rattle.log_pager.specs.declared.fault.PagerFault.TheVariants.{Full, Short, Store}
use Rattle.log_pager.specs.Pager.{RefusesPagerCommit, RefusesPagerStep}
use Rattle.log_files.specs.State.{LogFilesState}
use Rattle.log_files.specs.Calls.{has_blocks_for, has_number_for, log_commit_refusal}
use Rattle.log_files.specs.inside.Sound.{IsSoundLogFiles}
use Rattle.log_files.proofs.Rooms.{few_staged, fewer_records}

-- ---- commits

record IsFree (a c d : Bool) : Type 0 where
  whole : a ≡ false
  number : c ≡ true
  blocks : d ≡ true

free_of : (a b c d : Bool)
    → first_reason (reason_if a refusals.Broken ∷ reason_if (b || not (c && d)) refusals.Busy ∷ []) ≡ None
    → IsFree a c d
free_of true b c d none = absurd (cc)
free_of false true c d none = absurd (cc)
free_of false false false d none = absurd (cc)
free_of false false true false none = absurd (cc)
free_of false false true true none = record { whole = refl; number = refl; blocks = refl }

number_left : (t : TailValue) (staged : Blocks) → staged ≢ [] → has_number_for t staged ≡ true → t.number + 1 < 2 ^ 64
number_left t [] some is = absurd (some refl)
number_left t (b ∷ bs) some is = grind (arith, nat_tests, is)

blocks_left : (t : TailValue) (staged : Blocks) → staged ≢ [] → has_blocks_for t staged ≡ true
    → t.used + log_commit_blocks (length staged) + spare_blocks t.log.sealing ≤ t.log.ring
blocks_left t [] some is = absurd (some refl)
blocks_left t (b ∷ bs) some is = grind (arith, nat_tests, is)

some_blocks : (staged : Blocks) → staged ≢ [] → 0 < length staged
some_blocks [] some = absurd (some refl)
some_blocks (b ∷ bs) some = omega arith

module _ {D : Type 0} (disk : Ghosts D) (s : LogFilesState D) (sound : IsSoundLogFiles disk.seen s) where
  -- a commit of what was put has a size that a commit may have
  pub put_size : s.pager.staged ≢ [] → IsCommitSize s.table.ring (length s.pager.staged)
  put_size some = fewer_records s.table.ring (length s.pager.staged) (s.most + 1) (some_blocks s.pager.staged some)
      (few_staged disk.seen s sound) sound.size

  module _ (free : log_commit_refusal s ≡ None) (some : s.pager.staged ≢ []) where
    abbrev t : TailValue
    t = s.pager.store.tail

    is_free : IsFree t.spent (has_number_for t s.pager.staged) (has_blocks_for t s.pager.staged)
    is_free = free_of t.spent _ (has_number_for t s.pager.staged) (has_blocks_for t s.pager.staged) free

    count : length (homes_in s.pager.staged) ≡ length s.pager.staged
    count = length-map s.pager.staged (λ (block : ℕ × List ℕ). block.0)

    may_size : IsCommitSize t.log.ring (length (homes_in s.pager.staged))
    may_size = subst (λ (n : ℕ). IsCommitSize t.log.ring n) (sym count)
        (subst (λ (g : LogValue). IsCommitSize g.ring (length s.pager.staged)) (sym sound.same_log) (put_size some))

    may_rise : RiseWithin (first_log_home t.log.ring) t.log.blocks (homes_in s.pager.staged)
    may_rise = subst (λ (g : LogValue). RiseWithin (first_log_home g.ring) g.blocks (homes_in s.pager.staged))
        (sym sound.same_log) sound.rising

    by_commit : (f : CommitFault) → RefusesPagerCommit disk s.pager (Store (stores.Commit f)) → f ≡ commits.Device
    by_commit commits.Spent r = absurd (let whole = is_free.whole in cc)
    by_commit commits.Count r = absurd (r may_size)
    by_commit commits.Homes r = absurd (r may_rise)
    by_commit commits.Room r = absurd (r (ap (λ n. 4096 * log_commit_blocks n + 1) (sym count)))
    by_commit commits.Number r = absurd (omega (arith, r, number_left t s.pager.staged some is_free.number))
    by_commit commits.Busy r = absurd (omega (arith, r, count, blocks_left t s.pager.staged some is_free.blocks))
    by_commit commits.Start r = absurd r
    by_commit commits.Device r = refl

    -- memory was refused, or a device call failed
    pub commit_fault : (fault : PagerFault) → RefusesPagerCommit disk s.pager fault
        → (fault ≡ Store stores.OutOfMemory) ⊎ (fault ≡ Store (stores.Commit commits.Device))
    commit_fault Full r = absurd (omega (arith, r, (put_size some).few))
    commit_fault Short r = absurd (let same = ap (λ (g : LogValue). g.blocks) sound.same_log in omega (
      arith,
      r,
      same,
      sound.long,
    ))
    commit_fault (Store (stores.Commit f)) r = inr (ap (λ (x : CommitFault). Store (stores.Commit x)) (by_commit f r))
    commit_fault (Store (stores.Move f)) r = absurd r
    commit_fault (Store stores.Range) r = absurd r
    commit_fault (Store stores.Device) r = absurd r
    commit_fault (Store stores.OutOfMemory) r = inl refl

-- ---- steps

module _ (t : TailValue) (entries : Entries) (whole : t.spent ≡ false)
    (noted : (b : ℕ) → IsNoted t.log b (find_in entries b)) (w : HomeWorkValue) where
  by_copy : (home : ℕ) (o : Option Newest) (f : MoveFault) → IsNoted t.log home o
      → RefusesStep t (old_copy w.oldest home o) f → (f ≡ moves.Device) × MayStep t (old_copy w.oldest home o)
  by_copy home None f is r = absurd r
  by_copy home (Some newest) f is r = elim (cases_Bool (nat_lt newest.number w.oldest.below)) [
    | inr young ↦ absurd (let none : old_copy w.oldest home (Some newest) ≡ None = rw young refl in
        subst (λ (c : Option (ℕ × Newest)). RefusesStep t c f) none r)
    | inl old ↦
        (let copy : old_copy w.oldest home (Some newest) ≡ Some (home, newest) = rw old refl in
        let there = by f (subst (λ (c : Option (ℕ × Newest)). RefusesStep t c f) copy r) in
        (there.0, subst (λ (c : Option (ℕ × Newest)). MayStep t c) (sym copy) there.1))
  ]
    where
      by : (f : MoveFault) → RefusesStep t (Some (home, newest)) f
          → (f ≡ moves.Device) × MayStep t (Some (home, newest))
      by moves.Spent r = absurd (cc)
      by moves.Range r = absurd (elim r [
        | inl low ↦ omega (arith, low, is.0)
        | inr (inl high) ↦ omega (arith, high, is.1)
        | inr (inr (inl low)) ↦ omega (arith, low, is.2.low)
        | inr (inr (inr high)) ↦ omega (arith, high, is.2.high)
      ])
      by moves.Device r = (refl, r)

  by_next : (o : Option ℕ) (f : MoveFault) → RefusesStep t (copy_for w.oldest o entries) f
      → (f ≡ moves.Device) × MayStep t (copy_for w.oldest o entries)
  by_next None f r = absurd r
  by_next (Some home) f r = by_copy home (find_in entries home) f (noted home) r

  by_move : IsOfLog t w.oldest → (f : MoveFault) → RefusesMove t w.oldest f → (f ≡ moves.Device) × MayMove t w.oldest
  by_move is moves.Spent r = absurd (cc)
  by_move is moves.Range r = absurd (elim r [
    | inl many ↦ omega (arith, many, is.0)
    | inr (inl low) ↦ omega (arith, low, is.1)
    | inr (inr high) ↦ omega (arith, high, is.2)
  ])
  by_move is moves.Device r = (refl, r)

  by_sure : (f : MoveFault) → RefusesSure t f → f ≡ moves.Device
  by_sure moves.Spent r = absurd (cc)
  by_sure moves.Range r = absurd r
  by_sure moves.Device r = refl

-- what is left of a fault
abbrev pub LeftOfStep : StoreValue → HomeStage → StoreFault → Type 0
LeftOfStep s stage fault = ((fault ≡ stores.OutOfMemory) × (stage ≡ Resting))
    ⊎ ((fault ≡ stores.Move moves.Device) × (stage ≢ Resting) × MayStepBy s stage)

module _ (s : StoreValue) (whole : s.tail.spent ≡ false)
    (noted : (b : ℕ) → IsNoted s.tail.log b (find_in s.entries b)) where
  by_work : (w : HomeWorkValue) → IsOfLog s.tail w.oldest → (b : Bool) (f : MoveFault)
      → MatchBool b (RefusesMove s.tail w.oldest f) (RefusesStep s.tail (next_copy w s.entries) f)
      → (f ≡ moves.Device) × MatchBool b (MayMove s.tail w.oldest) (MayStep s.tail (next_copy w s.entries))
  by_work w is true f r = by_move s.tail s.entries whole noted w is f r
  by_work w is false f r = by_next s.tail s.entries whole noted w _ f r

  by_device : (stage : HomeStage) (f : MoveFault) → stage ≢ Resting → (f ≡ moves.Device) × MayStepBy s stage
      → LeftOfStep s stage (stores.Move f)
  by_device stage f some there = inr (ap (λ (x : MoveFault). stores.Move x) there.0, some, there.1)

  pub step_left : (stage : HomeStage) → AreOfLog s.tail stage s.work.oldest → (fault : StoreFault)
      → RefusesStepBy s stage fault → LeftOfStep s stage fault
  step_left Resting is stores.OutOfMemory r = inl (refl, refl)
  step_left Copying is (stores.Move f) r =
      by_device Copying f (λ e. cc) (by_work s.work is (s.work.done == length s.work.homes) f r)
  step_left Written is (stores.Move f) r =
      by_device Written f (λ e. cc) (by_sure s.tail s.entries whole noted s.work f r, whole)
  step_left Sure is (stores.Move f) r =
      by_device Sure f (λ e. cc) (by_move s.tail s.entries whole noted s.work is f r)
  step_left Resting is (stores.Commit f) r = absurd r
  step_left Resting is (stores.Move f) r = absurd r
  step_left Resting is stores.Range r = absurd r
  step_left Resting is stores.Device r = absurd r
  step_left Copying is (stores.Commit f) r = absurd r
  step_left Copying is stores.Range r = absurd r
  step_left Copying is stores.Device r = absurd r
  step_left Copying is stores.OutOfMemory r = absurd r
  step_left Written is (stores.Commit f) r = absurd r
  step_left Written is stores.Range r = absurd r
  step_left Written is stores.Device r = absurd r
  step_left Written is stores.OutOfMemory r = absurd r
  step_left Sure is (stores.Commit f) r = absurd r
  step_left Sure is stores.Range r = absurd r
  step_left Sure is stores.Device r = absurd r
  step_left Sure is stores.OutOfMemory r = absurd r

pub step_fault : {D : Type 0} (disk : Ghosts D) (s : LogFilesState D) → IsSoundLogFiles disk.seen s
    → IsStore s.pager.store → s.pager.store.tail.spent ≡ false → (fault : PagerFault)
    → RefusesPagerStep disk s.pager fault
    → (left : StoreFault) × (fault ≡ Store left) × LeftOfStep s.pager.store s.pager.store.stage left
step_fault disk s sound store whole Full r = absurd r
step_fault disk s sound store whole Short r =
    absurd (let same = ap (λ (g : LogValue). g.blocks) sound.same_log in omega (arith, r, same, sound.long))
step_fault disk s sound store whole (Store fault) r =
    (fault, refl, step_left s.pager.store whole store.noted s.pager.store.stage store.work fault r)
