-- Batches that aren't committed: a step makes none of one that is.
use Rattle.machine.proofs.Names.{◌≡◌, ◌≤◌, ◌+◌, ◌⊎◌, ℕ, zero, suc, Bool, true, false, List, [], ◌∷◌, Option, Some, None}
use Rattle.machine.proofs.Names.{inl, inr, refl, sym, ap, ◌∙◌, subst, arith, map, drop, Contains, AllByRecursion}
use Rattle.machine.proofs.Names.{option_map_or, cond-true, cond-false, cases_Bool, both_ways}
use Rattle.machine.proofs.Names.{false_from_ne_true, Contains-append_right, Batch, Flushed, Going, Committed, Done}
use Rattle.machine.proofs.Names.{Device, Broken, Stage, Recording, Describing, SyncingRecords, Opening, Committing}
use Rattle.machine.proofs.Names.{Finishing, is_ahead, is_at, is_committed, answer_at, WriteOut, begun_of, next_stage}
use Rattle.machine.proofs.Names.{has_committed, advanced_of, moving, moved}
use Rattle.machine.proofs.Names.{answer_of, has_uncommitted, batches_after, HasBlock, IsOlder, AreInOrder}
use Rattle.machine.proofs.Names.{IsAt, stage_is, committed_parts, IsWaiting, FilePage, State, home_of}
use Rattle.machine.proofs.Names.{IsSound, waiting_homes, file_homes, HasUncommitted}
use Rattle.journal.specs.WriteOuts.{current}
use Rattle.machine.proofs.sound.Sharing.{AreStepped, Makes, each_stepped, moving_there, ending}
use Rattle.machine.proofs.sound.Waiting.{waiting-none, blocks, committed_steps, committed_still}
use Rattle.history.proofs.Public.{first_or, some_same, none_some, nothing_mapped, contains_drop}
use Rattle.machine.proofs.sound.Ended.{frozen_has_block}

-- one that isn't committed after a step wasn't before it
still_uncommitted : (w : WriteOut) → has_committed (advanced_of w) ≡ false → has_committed w ≡ false
still_uncommitted w early = false_from_ne_true (has_committed w)
    (λ late. both_ways (has_committed (advanced_of w)) early (committed_still w late))

-- where each is committed, none of them isn't
pub none_uncommitted : (batches : List WriteOut) (w : WriteOut) → has_uncommitted batches ≡ false → Contains batches w
    → has_committed w ≡ false → ⊥
none_uncommitted [] w none there early = omega (arith, there.1)
none_uncommitted (x ∷ newer) w none (zero, lt, e) early =
    both_ways (has_committed w) early
    (subst (λ (y : WriteOut). has_committed y ≡ true) e (committed_parts x newer none).0)
none_uncommitted (x ∷ newer) w none (suc k, lt, e) early =
    none_uncommitted newer w (committed_parts x newer none).1 (k, omega (arith, lt), e) early

-- what a batch was before a step, where it isn't committed after it
abbrev WasUncommitted : List WriteOut → WriteOut → Type 0
WasUncommitted batches w = HasUncommitted batches (λ x. x.batch ≡ w.batch)

-- behind another one, too
later : (Is : WriteOut → Type 0) (x : WriteOut) (newer : List WriteOut) → HasUncommitted newer Is
    → HasUncommitted (x ∷ newer) Is
later Is x newer has = record {
  w = has.w;
  there = Contains-append_right (x ∷ []) newer has.w has.there;
  early = has.early;
  is = has.is;
}

stepped_before : (P : WriteOut → Type 0) (xs ys : List WriteOut) → AreStepped P xs ys → (w : WriteOut) → Contains ys w
    → has_committed w ≡ false → WasUncommitted xs w
stepped_before P [] [] are w there early = absurd (omega (arith, there.1))
stepped_before P (x ∷ xs) (y ∷ ys) are w there early = elim (first_or y ys w there) [
  | inl e ↦ record {
    w = x;
    there = (0, omega arith, refl);
    early = (one are.0).1 (ap has_committed e ∙ early);
    is = (one are.0).0 ∙ ap (λ (z : WriteOut). z.batch) e;
  }
  | inr rest ↦ later (λ z. z.batch ≡ w.batch) x xs (stepped_before P xs ys are.1 w rest early)
]
  where
    one : ((y ≡ x) ⊎ ((y ≡ advanced_of x) × P x))
        → (x.batch ≡ y.batch) × (has_committed y ≡ false → has_committed x ≡ false)
    one (inl same) = (ap (λ (z : WriteOut). z.batch) (sym same), λ still. ap has_committed (sym same) ∙ still)
    one (inr step) = (
      ap (λ (z : WriteOut). z.batch) (sym step.0),
      λ still. still_uncommitted x (ap has_committed (sym step.0) ∙ still),
    )
stepped_before P xs ys are w there early = absurd are

moved_before : (shares : Bool) (batches : List WriteOut) (w : WriteOut) → Contains (moved shares batches) w
    → has_committed w ≡ false → WasUncommitted batches w
moved_before shares batches = stepped_before (Makes shares batches) batches (moved shares batches)
    (each_stepped shares batches)

pub uncommitted_before : (shares : Bool) (answer : Flushed) (batches : List WriteOut) (w : WriteOut)
    → Contains (batches_after shares answer batches) w → has_committed w ≡ false → WasUncommitted batches w
uncommitted_before shares Going batches w there early = moved_before shares batches w there early
uncommitted_before shares (Committed mark) batches w there early = moved_before shares batches w there early
uncommitted_before shares (Done mark) batches w there early =
    moved_before shares batches w (contains_drop 1 (moved shares batches) w there) early
uncommitted_before shares Device batches w there early =
    record { w = w; there = there; early = early; is = refl }
uncommitted_before shares Broken batches w there early =
    record { w = w; there = there; early = early; is = refl }

-- ---- a batch that waits

-- one that was just begun does
pub begun_early : (slots : ℕ) (batch : Batch) → has_committed (begun_of slots batch) ≡ false
begun_early slots batch = false_from_ne_true (has_committed (begun_of slots batch))
    (λ late. let many = committed_steps (begun_of slots batch) late in omega (arith, many))

-- the step by which a batch is committed answers so
commits_now : (k d n mark : ℕ) (o : Option Stage) → IsAt k d n o → option_map_or is_committed o true ≡ false
    → k + d + 3 ≤ n + 1 → option_map_or (answer_at mark) o Broken ≡ Committed mark
commits_now k d n mark (Some (Recording i)) at early late = absurd (omega (arith, at.0, at.1, late))
commits_now k d n mark (Some (Describing i)) at early late = absurd (omega (arith, at.0, at.1, late))
commits_now k d n mark (Some SyncingRecords) at early late = absurd (omega (arith, at, late))
commits_now k d n mark (Some Opening) at early late = absurd (omega (arith, at, late))
commits_now k d n mark (Some Committing) at early late = refl
commits_now k d n mark o at early late = absurd (both_ways true early refl)

own_step : (x : WriteOut) → has_committed x ≡ false
    → (has_committed (advanced_of x) ≡ false) ⊎ (answer_of x ≡ Committed x.batch.mark)
own_step x early = elim (cases_Bool (has_committed (advanced_of x))) [
  | inl late ↦ inr (commits_now (blocks x) x.described x.steps x.batch.mark (next_stage x)
      (stage_is (blocks x) x.described x.steps) early (committed_steps (advanced_of x) late))
  | inr still ↦ inl still
]

-- one that isn't ahead isn't committed by its next step
not_committing : (x : WriteOut) (n : ℕ) → is_at is_ahead x ≡ false → answer_of x ≡ Committed n → ⊥
not_committing x n behind e = by (next_stage x) behind e
  where
    by : (o : Option Stage) → option_map_or is_ahead o false ≡ false
        → option_map_or (answer_at x.batch.mark) o Broken ≡ Committed n → ⊥
    by None behind e = absurd (cc)
    by (Some Committing) behind e = both_ways true behind refl
    by (Some Finishing) behind e = absurd (cc)
    by (Some stage) behind e = absurd (cc)

-- after steps a batch still waits, or one answered that it is committed
waits_stepped : (P : WriteOut → Type 0) (xs ys : List WriteOut) → AreStepped P xs ys → (n : ℕ) → IsWaiting xs n
    → IsWaiting ys n ⊎ ((x : WriteOut) × P x × (answer_of x ≡ Committed n))
waits_stepped P [] [] are n wait = absurd (omega (arith, wait.there.1))
waits_stepped P (x ∷ xs) (y ∷ ys) are n wait = elim (first_or x xs wait.w wait.there) [
  | inl e ↦ first are.0 (ap has_committed e ∙ wait.early) (ap (λ (z : WriteOut). z.batch.mark) e ∙ wait.is)
  | inr rest ↦ elim (waits_stepped P xs ys are.1 n
      (record { w = wait.w; there = rest; early = wait.early; is = wait.is })) [
        | inl still ↦ inl (later (λ z. z.batch.mark ≡ n) y ys still)
        | inr answered ↦ inr answered
      ]
]
  where
    here : has_committed y ≡ false → y.batch.mark ≡ n → IsWaiting (y ∷ ys) n
    here early mark = record { w = y; there = (0, omega arith, refl); early = early; is = mark }

    first : ((y ≡ x) ⊎ ((y ≡ advanced_of x) × P x)) → has_committed x ≡ false → x.batch.mark ≡ n
        → IsWaiting (y ∷ ys) n ⊎ ((x : WriteOut) × P x × (answer_of x ≡ Committed n))
    first (inl same) early mark = inl (here (ap has_committed same ∙ early) (ap (λ (z : WriteOut). z.batch.mark) same
        ∙ mark))
    first (inr step) early mark = elim (own_step x early) [
      | inl still ↦ inl (here (ap has_committed step.0 ∙ still) (ap (λ (z : WriteOut). z.batch.mark) step.0 ∙ mark))
      | inr answer ↦ inr (x, step.1, answer ∙ ap Committed mark)
    ]
waits_stepped P xs ys are n wait = absurd are

waits_on : (shares : Bool) (batches : List WriteOut) (n : ℕ) → IsWaiting batches n
    → IsWaiting (moved shares batches) n
    ⊎ (option_map_or answer_of (moving shares batches) Broken ≡ Committed n)
waits_on shares batches n wait = elim (waits_stepped (Makes shares batches) batches (moved shares batches)
    (each_stepped shares batches) n wait) [
      | inl still ↦ inl still
      | inr answered ↦ inr (by answered.0 answered.1 answered.2)
    ]
  where
    by : (x : WriteOut) → Makes shares batches x → answer_of x ≡ Committed n
        → option_map_or answer_of (moving shares batches) Broken ≡ Committed n
    by x (inl mover) e = ap (λ (o : Option WriteOut). option_map_or answer_of o Broken) mover ∙ e
    by x (inr behind) e = absurd (not_committing x n behind e)

-- of those that go on where the oldest is done, a batch still waits that did
waits_ended : (shares : Bool) (batches : List WriteOut) (mark n : ℕ)
    → option_map_or answer_of (moving shares batches) Broken ≡ Done mark → IsWaiting batches n
    → IsWaiting (drop 1 (moved shares batches)) n
waits_ended shares batches mark n e wait =
    let is = ending shares batches mark e in
    let late : has_committed is.oldest ≡ true =
    ap (λ (o : Option Stage). option_map_or is_committed o true) is.stage in
    elim (first_or is.oldest is.newer wait.w (subst (λ (l : List WriteOut). Contains l wait.w) is.are wait.there)) [
      | inl same ↦ absurd (both_ways (has_committed wait.w) wait.early (sym (ap has_committed same) ∙ late))
      | inr rest ↦ elim (waits_stepped (λ x. is_at is_ahead x ≡ false) is.newer (drop 1 (moved shares batches))
          is.stepped n (record { w = wait.w; there = rest; early = wait.early; is = wait.is })) [
            | inl still ↦ still
            | inr answered ↦ absurd (not_committing answered.0 n answered.1 answered.2)
          ]
    ]

pub waits_after : (shares : Bool) (batches : List WriteOut) (answer : Flushed)
    → option_map_or answer_of (moving shares batches) Broken ≡ answer → (n : ℕ) → IsWaiting batches n
    → IsWaiting (batches_after shares answer batches) n ⊎ (answer ≡ Committed n)
waits_after shares batches answer is n wait = by answer is
  where
    on : (a : Flushed) → option_map_or answer_of (moving shares batches) Broken ≡ a
        → IsWaiting (moved shares batches) n ⊎ (a ≡ Committed n)
    on a is = elim (waits_on shares batches n wait) [ inl still ↦ inl still | inr e ↦ inr (sym is ∙ e) ]

    by : (a : Flushed) → option_map_or answer_of (moving shares batches) Broken ≡ a
        → IsWaiting (batches_after shares a batches) n ⊎ (a ≡ Committed n)
    by Going is = on Going is
    by (Committed mark) is = on (Committed mark) is
    by (Done mark) is = inl (waits_ended shares batches mark n is wait)
    by Device is = inl wait
    by Broken is = inl wait

-- ---- the one whose stage decides what a crash leaves

-- is one of them
pub current_there : (batches : List WriteOut) (y : WriteOut) → current batches ≡ Some y → Contains batches y
current_there batches y is = moving_there false batches y is

-- and is the one that waits

older_of : (x : WriteOut) (newer : List WriteOut) → has_uncommitted newer ≡ true → AllByRecursion (IsOlder x) newer
    → has_committed x ≡ true
older_of x [] some all = absurd (both_ways false refl some)
older_of x (y ∷ newer) some all = all.0.committed

pub waiting_is_current : (batches : List WriteOut) → AreInOrder batches → (y : WriteOut) → current batches ≡ Some y
    → (w : WriteOut) → Contains batches w → has_committed w ≡ false → w ≡ y
waiting_is_current [] ordered y is w there early = absurd (omega (arith, there.1))
waiting_is_current (x ∷ newer) ordered y is w there early = elim (cases_Bool (has_uncommitted newer)) [
  | inl some ↦ elim (first_or x newer w there) [
    | inl e ↦ absurd (both_ways (has_committed w) early
        (subst (λ (z : WriteOut). has_committed z ≡ true) e (older_of x newer some ordered.0)))
    | inr rest ↦ waiting_is_current newer ordered.1 y
        (sym (cond-true (has_uncommitted newer) (current newer) (Some x) some) ∙ is) w rest early
  ]
  | inr none ↦ elim (first_or x newer w there) [
    | inl e ↦ sym e ∙ some_same x y (sym (cond-false (has_uncommitted newer) (current newer) (Some x) none) ∙ is)
    | inr rest ↦ absurd (none_uncommitted newer w none rest early)
  ]
]

-- where there is none, there is no batch
pub none_current : (batches : List WriteOut) → current batches ≡ None → (w : WriteOut) → Contains batches w → ⊥
none_current [] is w there = omega (arith, there.1)
none_current (x ∷ newer) is w there = elim (cases_Bool (has_uncommitted newer)) [
  | inl some ↦ (let first = found newer some in
      none_current newer (sym (cond-true (has_uncommitted newer) (current newer) (Some x) some) ∙ is) first.0 first.1)
  | inr none ↦ none_some x (sym is ∙ cond-false (has_uncommitted newer) (current newer) (Some x) none)
]
  where
    found : (l : List WriteOut) → has_uncommitted l ≡ true → (y : WriteOut) × Contains l y
    found [] some = absurd (both_ways false refl some)
    found (y ∷ l) some = (y, (0, omega arith, refl))

-- ---- which pages are frozen

module _ (s : State) (sound : IsSound s) where
  pub broken_frozen : s.write_outs.broken ≡ true → s.checkpoint.frozen ≡ []
  broken_frozen broken = nothing_mapped (home_of s.table) s.checkpoint.frozen (sound.write_outs.frozen
      ∙ cond-true s.write_outs.broken [] (file_homes s.table (waiting_homes s.write_outs)) broken)

  pub whole_frozen : s.write_outs.broken ≡ false
      → map (home_of s.table) s.checkpoint.frozen ≡ file_homes s.table (waiting_homes s.write_outs)
  whole_frozen whole = sound.write_outs.frozen
      ∙ cond-false s.write_outs.broken [] (file_homes s.table (waiting_homes s.write_outs)) whole

  -- the home block of a frozen page belongs to a batch
  pub frozen_block : (owner : FilePage) → Contains s.checkpoint.frozen owner
      → HasBlock s.write_outs (home_of s.table owner)
  frozen_block owner has = elim (cases_Bool s.write_outs.broken) [
    | inl broken ↦ (let none : Contains [] owner = subst (λ (l : List FilePage). Contains l owner)
        (broken_frozen broken) has in absurd (omega (arith, none.1)))
    | inr whole ↦ frozen_has_block s owner sound.write_outs whole has
  ]

-- where each batch is committed, no page is frozen
pub committed_frozen : (s : State) → IsSound s → has_uncommitted s.write_outs.batches ≡ false → s.checkpoint.frozen ≡ []
committed_frozen s sound none = elim (cases_Bool s.write_outs.broken) [
  | inl broken ↦ broken_frozen s sound broken
  | inr whole ↦ nothing_mapped (home_of s.table) s.checkpoint.frozen
      (whole_frozen s sound whole ∙ ap (file_homes s.table) (waiting-none s.write_outs.batches none))
]
