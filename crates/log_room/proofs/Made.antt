-- What a step or a commit of a pager does, by its clauses.
use Rattle.std.proofs.Common.{◌≡◌, ◌≢◌, ◌⊎◌, ℕ, ◌+◌, Bool, true, false, List, [], ◌∷◌, inl, inr, refl, sym, ap}
use Rattle.std.proofs.Common.{subst, ◌∙◌, ◌≤◌, arith}
use Rattle.std.specs.Prelude.{⊤, Option, Some, None, Result, Ok, Err, IfOk, IfErr, OnErr, OnOk}
use Rattle.device.specs.declared.device.Device.{Ghosts}
use Rattle.device.specs.Device.{Only}
use Rattle.device.specs.Work.{Work}
use Rattle.device.proofs.Public.{leaves_at_start}
use Rattle.kept_blocks.specs.Blocks.{Blocks, homes_in}
use Rattle.volume_codec.specs.Layout.{block_at}
use Rattle.log_codec.specs.declared.sealing.Sealing.{Sealing}
use Rattle.log_codec.specs.declared.sealing.Sealing.TheVariants.{ByByte, ByDigest}
use Rattle.log_commits.specs.Behind.{tail_behind}
use Rattle.log_commits.specs.Calls.{DidAll}
use Rattle.log_commits.specs.Tail.{TailValue, EndsAtTail, EndsAtTailBy}
use Rattle.log_commits.specs.declared.behind.OldCommits.{OldCommits}
use Rattle.log_commits.specs.declared.behind.MoveFault.TheVariants as moves
use Rattle.log_commits.specs.declared.fault.CommitFault.TheVariants as commits
use Rattle.log_store.specs.declared.fault.Progress.{Progress}
use Rattle.log_store.specs.declared.fault.StoreFault.TheVariants as stores
use Rattle.log_store.specs.declared.stage.HomeStage.{HomeStage}
use Rattle.log_store.specs.Store.{HasNoted, KeepsStore, MayStepBy, StepsBy, StoreValue, selection, step_works}
use Rattle.log_store.specs.Store.{store_commit_works, tail_by}
use Rattle.log_store.proofs.Public.{AreBehind, commit_behind, committing_log, ended_stays, failed_step_may}
use Rattle.log_store.proofs.Public.{first_stays, step_behind, step_cases, step_outside}
use Rattle.log_pager.specs.declared.fault.PagerFault.{PagerFault}
use Rattle.log_pager.specs.declared.fault.PagerFault.TheVariants.{Full, Short, Store}
use Rattle.log_pager.specs.Pager.{IsPagerOver, LogPagerValue, RefusesPagerStep, contents_put, records_put}
use Rattle.log_pager.proofs.Public.{steps_log}
use Rattle.log_room.specs.Room.{IsEnded, KeepsFirst}
use Rattle.log_room.specs.inside.Leading.{IsHonestOver, KeepsContents, KeepsEnd, KeepsEndBy, PutsContents, StaysOver}

-- ---- whether a device call failed

abbrev step_failure : PagerFault
step_failure = Store (stores.Move moves.Device)

abbrev commit_failure : PagerFault
commit_failure = Store (stores.Commit commits.Device)

step_failed : (fault : PagerFault) → (fault ≡ step_failure) ⊎ (fault ≢ step_failure)
step_failed Full = inr (λ same. cc)
step_failed Short = inr (λ same. cc)
step_failed (Store (stores.Commit f)) = inr (λ same. cc)
step_failed (Store (stores.Move moves.Spent)) = inr (λ same. cc)
step_failed (Store (stores.Move moves.Range)) = inr (λ same. cc)
step_failed (Store (stores.Move moves.Device)) = inl refl
step_failed (Store stores.Range) = inr (λ same. cc)
step_failed (Store stores.Device) = inr (λ same. cc)
step_failed (Store stores.OutOfMemory) = inr (λ same. cc)

commit_failed : (fault : PagerFault) → (fault ≡ commit_failure) ⊎ (fault ≢ commit_failure)
commit_failed Full = inr (λ same. cc)
commit_failed Short = inr (λ same. cc)
commit_failed (Store (stores.Commit commits.Spent)) = inr (λ same. cc)
commit_failed (Store (stores.Commit commits.Count)) = inr (λ same. cc)
commit_failed (Store (stores.Commit commits.Homes)) = inr (λ same. cc)
commit_failed (Store (stores.Commit commits.Room)) = inr (λ same. cc)
commit_failed (Store (stores.Commit commits.Number)) = inr (λ same. cc)
commit_failed (Store (stores.Commit commits.Busy)) = inr (λ same. cc)
commit_failed (Store (stores.Commit commits.Start)) = inr (λ same. cc)
commit_failed (Store (stores.Commit commits.Device)) = inl refl
commit_failed (Store (stores.Move f)) = inr (λ same. cc)
commit_failed (Store stores.Range) = inr (λ same. cc)
commit_failed (Store stores.Device) = inr (λ same. cc)
commit_failed (Store stores.OutOfMemory) = inr (λ same. cc)

is_none : (blocks : Blocks) → (blocks ≡ []) ⊎ (blocks ≢ [])
is_none [] = inl refl
is_none (block ∷ blocks) = inr (λ same. cc)

module _ {D : Type 0} (disk : Ghosts D) (old new : LogPagerValue D) where
  abbrev step_calls : List Work
  step_calls = step_works old.store old.store.stage

  abbrev commit_calls : List Work
  commit_calls = store_commit_works old.store (homes_in old.staged) (records_put old.staged)

  -- ---- the log stays where it is

  pub step_log : (result : Result Progress PagerFault) → IfOk result (StepsBy old.store old.store.stage new.store)
      → IfErr result (λ fault. fault ≢ step_failure → new ≡ old)
      → IfErr result (λ fault. fault ≡ step_failure → new.store.tail ≡ record old.store.tail { spent = true })
      → new.store.tail.log ≡ old.store.tail.log
  step_log (Ok progress) steps unchanged spent =
      steps_log old.store old.store.stage new.store progress steps
  step_log (Err fault) steps unchanged spent = elim (step_failed fault) [
    | inl failed ↦ ap (λ (t : TailValue). t.log) (spent failed)
    | inr other ↦ ap (λ (s : LogPagerValue D). s.store.tail.log) (unchanged other)
  ]

  pub commit_log : (result : Result ⊤ PagerFault) → (old.staged ≡ [] → (result ≡ Ok tt) × (new ≡ old))
      → OnOk result (old.staged ≢ [] → HasNoted old.store new.store (homes_in old.staged))
      → IfErr result (λ fault. fault ≢ commit_failure
      → KeepsStore old.store new.store × (new.device ≡ old.device))
      → IfErr result (λ fault. fault ≡ commit_failure → new.store.tail ≡ record old.store.tail { spent = true })
      → new.store.tail.log ≡ old.store.tail.log
  commit_log (Ok x) idle noted unchanged spent = elim (is_none old.staged) [
    | inl none ↦ ap (λ (s : LogPagerValue D). s.store.tail.log) (idle none).1
    | inr some ↦ ap (λ (t : TailValue). t.log) (noted some).tail ∙ committing_log old.store
  ]
  commit_log (Err fault) idle noted unchanged spent = elim (commit_failed fault) [
    | inl failed ↦ ap (λ (t : TailValue). t.log) (spent failed)
    | inr other ↦ ap (λ (t : TailValue). t.log) (unchanged other).0.tail
  ]

  -- ---- the contents

  pub step_keeps : (result : Result Progress PagerFault)
      → ((contents : ℕ → List ℕ) → disk.is_honest old.device → IsPagerOver disk old contents
      → OnOk result (IsPagerOver disk new contents))
      → OnOk result (KeepsContents disk old new)
  step_keeps (Ok progress) over = λ contents is. over contents is.honest is.over
  step_keeps (Err fault) over = tt

  pub step_stays : (result : Result Progress PagerFault)
      → IfErr result (λ fault. fault ≢ step_failure → new ≡ old) → IfErr result (StaysOver disk old new)
  step_stays (Ok progress) unchanged = tt
  step_stays (Err fault) unchanged = λ not_commit not_step contents is.
      subst (λ (s : LogPagerValue D). IsPagerOver disk s contents) (sym (unchanged not_step)) is.over

  pub commit_puts : (result : Result ⊤ PagerFault)
      → ((contents : ℕ → List ℕ) → disk.is_honest old.device → IsPagerOver disk old contents
      → OnOk result (IsPagerOver disk new (contents_put contents old.staged)))
      → OnOk result (PutsContents disk old new)
  commit_puts (Ok x) over = λ contents is. over contents is.honest is.over
  commit_puts (Err fault) over = tt

  pub commit_sure : (result : Result ⊤ PagerFault) → old.staged ≢ []
      → ((contents : ℕ → List ℕ) → disk.is_honest old.device → IsPagerOver disk old contents → old.staged ≢ []
      → OnOk result (Only (disk.may_leave new.device) (disk.seen new.device)))
      → OnOk result ((contents : ℕ → List ℕ) → IsHonestOver disk old contents
      → Only (disk.may_leave new.device) (disk.seen new.device))
  commit_sure (Ok x) some sure = λ contents is. sure contents is.honest is.over some
  commit_sure (Err fault) some sure = tt

  next_number : (o : Option OldCommits) → (tail_by old.store.tail o).number ≡ old.store.tail.number
  next_number None = refl
  next_number (Some oldest) = refl

  pub commit_number : (result : Result ⊤ PagerFault) → old.staged ≢ []
      → OnOk result (old.staged ≢ [] → HasNoted old.store new.store (homes_in old.staged))
      → OnOk result (new.store.tail.number ≡ old.store.tail.number + 1)
  commit_number (Ok x) some noted =
      ap (λ (t : TailValue). t.number) (noted some).tail ∙ ap (λ n. n + 1) (next_number (selection old.store))
  commit_number (Err fault) some noted = tt

  pub commit_kept : (result : Result ⊤ PagerFault) → OnErr result (new.staged ≡ old.staged)
      → IfErr result (λ fault. new.staged ≡ old.staged)
  commit_kept (Ok x) kept = tt
  commit_kept (Err fault) kept = kept

  pub commit_stays : (result : Result ⊤ PagerFault)
      → ((contents : ℕ → List ℕ) → disk.is_honest old.device → IsPagerOver disk old contents
      → IfErr result (λ fault. fault ≢ commit_failure → IsPagerOver disk new contents))
      → IfErr result (StaysOver disk old new)
  commit_stays (Ok x) stays = tt
  commit_stays (Err fault) stays = λ not_commit not_step contents is. stays contents is.honest is.over not_commit

  -- ---- what the device calls leave

  -- what follows of the clauses of a step, and of a commit
  abbrev StepTells : Type 0 → Type 0
  StepTells Q = (result : Result Progress PagerFault)
      → OnOk result (MayStepBy old.store old.store.stage) → IfErr result (RefusesPagerStep disk old)
      → IfErr result (λ fault. fault ≢ step_failure → new ≡ old)
      → (MayStepBy old.store old.store.stage
      → OnOk result (DidAll disk old.device step_calls true new.device))
      → (MayStepBy old.store old.store.stage
      → IfErr result (λ fault. fault ≡ step_failure → DidAll disk old.device step_calls false new.device))
      → Q

  abbrev CommitTells : Type 0 → Type 0
  CommitTells Q = (result : Result ⊤ PagerFault) → (old.staged ≡ [] → (result ≡ Ok tt) × (new ≡ old))
      → OnOk result (old.staged ≢ [] → DidAll disk old.device commit_calls true new.device)
      → IfErr result (λ fault. fault ≡ commit_failure → DidAll disk old.device commit_calls false new.device)
      → IfErr result (λ fault. fault ≢ commit_failure
      → KeepsStore old.store new.store × (new.device ≡ old.device))
      → Q

  module _ (Q : Type 0) (by_same : new.device ≡ old.device → Q) where
    step_leaves : ((done : Bool) → MayStepBy old.store old.store.stage
        → DidAll disk old.device step_calls done new.device → Q) → StepTells Q
    step_leaves by_works (Ok progress) may refused unchanged did failed = by_works true may (did may)
    step_leaves by_works (Err fault) may refused unchanged did failed = elim (step_failed fault) [
      | inl is ↦
          (let might = failed_step_may old.store old.store.stage (subst (RefusesPagerStep disk old) is refused) in
          by_works false might (failed might is))
      | inr other ↦ by_same (ap (λ (s : LogPagerValue D). s.device) (unchanged other))
    ]

    commit_leaves : ((done : Bool) → DidAll disk old.device commit_calls done new.device → Q) → CommitTells Q
    commit_leaves by_works (Ok x) idle did failed unchanged = elim (is_none old.staged) [
      | inl none ↦ by_same (ap (λ (s : LogPagerValue D). s.device) (idle none).1)
      | inr some ↦ by_works true (did some)
    ]
    commit_leaves by_works (Err fault) idle did failed unchanged = elim (commit_failed fault) [
      | inl is ↦ by_works false (failed is)
      | inr other ↦ by_same (unchanged other).1
    ]

  -- ---- the first block stays as it is

  module _ (since_now : (device : D) (c : List ℕ) → disk.left_since device (disk.moment device) c
      → disk.may_leave device c) (text : List ℕ)
      (has : (c : List ℕ) → disk.may_leave old.device c → block_at c 0 ≡ text) where
    first_by : (works : List Work) (done : Bool) → AreBehind works → DidAll disk old.device works done new.device
        → KeepsFirst disk text old.device new.device
    first_by works done behind did =
        let stays = first_stays disk since_now text works done old.device new.device behind has did in
        record { crash = stays.crash; left = stays.left }

    first_same : new.device ≡ old.device → KeepsFirst disk text old.device new.device
    first_same same =
        let none : KeepsFirst disk text old.device old.device = record {
          crash = leaves_at_start (λ c left. has c (since_now old.device c left));
          left = has;
        } in
        subst (KeepsFirst disk text old.device) (sym same) none

    pub step_first : StepTells (KeepsFirst disk text old.device new.device)
    step_first = step_leaves (KeepsFirst disk text old.device new.device) first_same
        (λ done may did. first_by step_calls done (step_behind old.store old.store.stage may) did)

    pub commit_first : CommitTells (KeepsFirst disk text old.device new.device)
    commit_first = commit_leaves (KeepsFirst disk text old.device new.device) first_same
        (λ done did. first_by commit_calls done (commit_behind old.store _ _) did)

  -- ---- time goes on

  did_later : (works : List Work) (done : Bool) (a b : D) → DidAll disk a works done b
      → disk.moment a ≤ disk.moment b
  did_later [] done a b did = subst (λ x. disk.moment a ≤ disk.moment x) (sym did.0) (omega arith)
  did_later (work ∷ more) done a b (inl failed) = failed.0.time.later
  did_later (work ∷ more) done a b (inr both) =
      omega (arith, both.1.time.later, did_later more done both.0 b both.2)

  later_same : new.device ≡ old.device → disk.moment old.device ≤ disk.moment new.device
  later_same same = subst (λ x. disk.moment old.device ≤ disk.moment x) (sym same) (omega arith)

  pub step_later : StepTells (disk.moment old.device ≤ disk.moment new.device)
  step_later = step_leaves (disk.moment old.device ≤ disk.moment new.device) later_same
      (λ done may did. did_later step_calls done old.device new.device did)

  pub commit_later : CommitTells (disk.moment old.device ≤ disk.moment new.device)
  commit_later = commit_leaves (disk.moment old.device ≤ disk.moment new.device) later_same
      (λ done did. did_later commit_calls done old.device new.device did)

  -- ---- the log ends where it did

  -- where the next commit lies
  abbrev SameEnd : TailValue → TailValue → Type 0
  SameEnd t u = (u.number ≡ t.number) × ((c : List ℕ) → EndsAtTail t c → EndsAtTail u c)

  as_end : (t u : TailValue) → u ≡ t → SameEnd t u
  as_end t u same = (
    ap (λ (v : TailValue). v.number) same,
    λ c ends. subst (λ (v : TailValue). EndsAtTail v c) (sym same) ends,
  )

  spent_end : (t u : TailValue) → u ≡ record t { spent = true } → SameEnd t u
  spent_end t u same = (
    ap (λ (v : TailValue). v.number) same,
    λ c ends. subst (λ (v : TailValue). EndsAtTail v c) (sym same) (by t.log.sealing c ends),
  )
    where
      by : (s : Sealing) (c : List ℕ) → EndsAtTailBy s t c → EndsAtTailBy s (record t { spent = true }) c
      by ByByte c ends = tt
      by (ByDigest key) c ends = ends

  moved_end : (t u : TailValue) (oldest : OldCommits) → u ≡ tail_behind t oldest → SameEnd t u
  moved_end t u oldest same = (
    ap (λ (v : TailValue). v.number) same,
    λ c ends. subst (λ (v : TailValue). EndsAtTail v c) (sym same) (by t.log.sealing c ends),
  )
    where
      by : (s : Sealing) (c : List ℕ) → EndsAtTailBy s t c → EndsAtTailBy s (tail_behind t oldest) c
      by ByByte c ends = tt
      by (ByDigest key) c ends = ends

  steps_end : (progress : Progress) → StepsBy old.store old.store.stage new.store progress
      → SameEnd old.store.tail new.store.tail
  steps_end progress steps =
      let t : TailValue = old.store.tail in
      let P : HomeStage → Progress → StoreValue → Type 0 = λ v made s. SameEnd t s.tail in
      step_cases old.store new.store P (λ none. as_end t t refl) (λ used. as_end t t refl)
      (λ apart. as_end t t refl) (λ done. as_end t t refl) (as_end t t refl)
      (λ has. moved_end t new.store.tail old.store.work.oldest has.tail) old.store.stage progress steps

  step_tail : (result : Result Progress PagerFault)
      → IfOk result (StepsBy old.store old.store.stage new.store)
      → IfErr result (λ fault. fault ≢ step_failure → new ≡ old)
      → IfErr result (λ fault. fault ≡ step_failure → new.store.tail ≡ record old.store.tail { spent = true })
      → SameEnd old.store.tail new.store.tail
  step_tail (Ok progress) steps unchanged spent = steps_end progress steps
  step_tail (Err fault) steps unchanged spent = elim (step_failed fault) [
    | inl failed ↦ spent_end old.store.tail new.store.tail (spent failed)
    | inr other ↦
        as_end old.store.tail new.store.tail (ap (λ (s : LogPagerValue D). s.store.tail) (unchanged other))
  ]

  module _ (since_now : (device : D) (c : List ℕ) → disk.left_since device (disk.moment device) c
      → disk.may_leave device c) where
    abbrev Left : Type 0
    Left = (c : List ℕ) → disk.may_leave new.device c → EndsAtTail old.store.tail c

    pub step_left : IsEnded disk old → StepTells Left
    step_left ended = step_leaves Left
        (λ same c may. ended c (subst (λ d. disk.may_leave d c) same may))
        (λ done may did. (ended_stays disk since_now old.store.tail step_calls done old.device new.device
        (step_outside old.store old.store.stage may) ended did).left)

    pub step_end : (result : Result Progress PagerFault)
        → IfOk result (StepsBy old.store old.store.stage new.store)
        → IfErr result (λ fault. fault ≡ step_failure → new.store.tail ≡ record old.store.tail { spent = true })
        → OnOk result (MayStepBy old.store old.store.stage) → IfErr result (RefusesPagerStep disk old)
        → IfErr result (λ fault. fault ≢ step_failure → new ≡ old)
        → (MayStepBy old.store old.store.stage
        → OnOk result (DidAll disk old.device step_calls true new.device))
        → (MayStepBy old.store old.store.stage
        → IfErr result (λ fault. fault ≡ step_failure → DidAll disk old.device step_calls false new.device))
        → KeepsEnd disk old new
    step_end result steps spent may refused unchanged did failed =
        let tail = step_tail result steps unchanged spent in
        record {
          number = tail.0;
          ends = λ ended c left. tail.1 c (step_left ended result may refused unchanged did failed c left);
        }

  pub commit_end : (result : Result ⊤ PagerFault)
      → IfErr result (λ fault. fault ≢ commit_failure
      → KeepsStore old.store new.store × (new.device ≡ old.device))
      → IfErr result (KeepsEndBy disk old new)
  commit_end (Ok x) unchanged = tt
  commit_end (Err fault) unchanged = λ other.
      let same = unchanged other in
      let tail = as_end old.store.tail new.store.tail same.0.tail in
      record {
        number = tail.0;
        ends = λ ended c left. tail.1 c (ended c (subst (λ d. disk.may_leave d c) same.1 left));
      }
