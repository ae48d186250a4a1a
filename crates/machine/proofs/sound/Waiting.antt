-- The home blocks that wait for their records, before a step of the write-outs and after it.
use Rattle.machine.proofs.Names.{ℕ, ◌≡◌, ◌⊎◌, ◌+◌, ◌<◌, ◌≤◌, inl, inr, not, Bool, true, false, List, [], ◌∷◌, ◌++◌}
use Rattle.machine.proofs.Names.{length}
use Rattle.machine.proofs.Names.{drop, Option, Some, None, refl, sym, ap, ◌∙◌, subst, arith, flat_map, All, both_ways}
use Rattle.machine.proofs.Names.{option_map_or, option_and_then, or_from, not_from_true, false_from_ne_true, drop_all}
use Rattle.machine.proofs.Names.{drop-drop, Contains-get_or, All-contains, Batch, Stage, Recording}
use Rattle.machine.proofs.Names.{Describing, SyncingRecords, Opening, Committing, Applying, SyncingHomes, Closing}
use Rattle.machine.proofs.Names.{Finishing, Flushed, is_committed, WriteOut, next_stage, has_committed, advanced_of}
use Rattle.machine.proofs.Names.{record_at, next_record, has_uncommitted, batches_after, IsAt, stage_is, is_ahead}
use Rattle.machine.proofs.Names.{is_at}
use Rattle.machine.proofs.Names.{joined, moving, moved, committed_parts, batch_before, AreOlderCommitted}
use Rattle.machine.proofs.sound.Sharing.{AreStepped, Makes, each_stepped, step_of, joined-none}

-- ---- one write-out

-- how many home blocks a write-out has
abbrev pub blocks : WriteOut → ℕ
blocks w = length w.batch.homes

-- a batch is committed once its records, its descriptor and its gate are written and durable
pub committed_steps : (w : WriteOut) → has_committed w ≡ true → blocks w + w.described + 3 ≤ w.steps
committed_steps w committed = by (next_stage w) (stage_is (blocks w) w.described w.steps) committed
  where
    by : (o : Option Stage) → IsAt (blocks w) w.described w.steps o → option_map_or is_committed o true ≡ true
        → blocks w + w.described + 3 ≤ w.steps
    by None at e = omega (arith, at)
    by (Some (Recording i)) at e = absurd (cc)
    by (Some (Describing i)) at e = absurd (cc)
    by (Some SyncingRecords) at e = absurd (cc)
    by (Some Opening) at e = absurd (cc)
    by (Some Committing) at e = absurd (cc)
    by (Some (Applying i)) at e = omega (arith, at.0)
    by (Some SyncingHomes) at e = omega (arith, at)
    by (Some Closing) at e = omega (arith, at)
    by (Some Finishing) at e = omega (arith, at)

pub steps_committed : (w : WriteOut) → blocks w + w.described + 3 ≤ w.steps → has_committed w ≡ true
steps_committed w many = by (next_stage w) (stage_is (blocks w) w.described w.steps)
  where
    by : (o : Option Stage) → IsAt (blocks w) w.described w.steps o → option_map_or is_committed o true ≡ true
    by None at = refl
    by (Some (Recording i)) at = absurd (omega (arith, many, at.0, at.1))
    by (Some (Describing i)) at = absurd (omega (arith, many, at.0, at.1))
    by (Some SyncingRecords) at = absurd (omega (arith, many, at))
    by (Some Opening) at = absurd (omega (arith, many, at))
    by (Some Committing) at = absurd (omega (arith, many, at))
    by (Some (Applying i)) at = refl
    by (Some SyncingHomes) at = refl
    by (Some Closing) at = refl
    by (Some Finishing) at = refl

-- one more step of a committed batch leaves it so
pub committed_still : (w : WriteOut) → has_committed w ≡ true → has_committed (advanced_of w) ≡ true
committed_still w committed = steps_committed (advanced_of w) (omega (arith, committed_steps w committed))

-- a record is written exactly in the steps before the last home block's
pub record_steps : (w : WriteOut) (i : ℕ) → next_record w ≡ Some i → (w.steps ≡ i) × (i < blocks w)
record_steps w i is = by (next_stage w) (stage_is (blocks w) w.described w.steps) is
  where
    by : (o : Option Stage) → IsAt (blocks w) w.described w.steps o → option_and_then record_at o ≡ Some i
        → (w.steps ≡ i) × (i < blocks w)
    by None at e = absurd (cc)
    by (Some (Recording k)) at e = let same : k ≡ i = cc in (at.0 ∙ same, subst (λ n. n < blocks w) same at.1)
    by (Some (Describing k)) at e = absurd (cc)
    by (Some SyncingRecords) at e = absurd (cc)
    by (Some Opening) at e = absurd (cc)
    by (Some Committing) at e = absurd (cc)
    by (Some (Applying k)) at e = absurd (cc)
    by (Some SyncingHomes) at e = absurd (cc)
    by (Some Closing) at e = absurd (cc)
    by (Some Finishing) at e = absurd (cc)

pub no_record_steps : (w : WriteOut) → next_record w ≡ None → blocks w ≤ w.steps
no_record_steps w is = by (next_stage w) (stage_is (blocks w) w.described w.steps) is
  where
    by : (o : Option Stage) → IsAt (blocks w) w.described w.steps o → option_and_then record_at o ≡ None
        → blocks w ≤ w.steps
    by None at e = omega (arith, at)
    by (Some (Recording k)) at e = absurd (cc)
    by (Some (Describing i)) at e = omega (arith, at.0)
    by (Some SyncingRecords) at e = omega (arith, at)
    by (Some Opening) at e = omega (arith, at)
    by (Some Committing) at e = omega (arith, at)
    by (Some (Applying k)) at e = omega (arith, at.0)
    by (Some SyncingHomes) at e = omega (arith, at)
    by (Some Closing) at e = omega (arith, at)
    by (Some Finishing) at e = omega (arith, at)

pub committed_no_record : (w : WriteOut) → has_committed w ≡ true → next_record w ≡ None
committed_no_record w committed = by (next_record w) refl
  where
    by : (o : Option ℕ) → next_record w ≡ o → o ≡ None
    by None is = refl
    by (Some i) is = let at = record_steps w i is in absurd (omega (arith, at.0, at.1, committed_steps w committed))

-- ---- the home blocks that wait

abbrev pub waits_of : WriteOut → List ℕ
waits_of w = drop w.steps w.batch.homes

abbrev pub waiting : List WriteOut → List ℕ
waiting batches = flat_map waits_of batches

pub none_waits : (w : WriteOut) → blocks w ≤ w.steps → waits_of w ≡ []
none_waits w many = drop_all w.steps w.batch.homes many

pub committed_waits : (w : WriteOut) → has_committed w ≡ true → waits_of w ≡ []
committed_waits w committed = none_waits w (omega (arith, committed_steps w committed))

pub waiting-none : (batches : List WriteOut) → has_uncommitted batches ≡ false → waiting batches ≡ []
waiting-none [] none = refl
waiting-none (w ∷ newer) none =
    let parts = committed_parts w newer none in
    ap (λ (l : List ℕ). l ++ waiting newer) (committed_waits w parts.0) ∙ waiting-none newer parts.1

-- ---- the write-outs after a step

one_committed : (P : WriteOut → Type 0) (x y : WriteOut) → ((y ≡ x) ⊎ ((y ≡ advanced_of x) × P x))
    → has_committed x ≡ true → has_committed y ≡ true
one_committed P x y (inl same) committed = ap has_committed same ∙ committed
one_committed P x y (inr step) committed = ap has_committed step.0 ∙ committed_still x committed

pub older-cons : (w : WriteOut) (batches : List WriteOut) → has_committed w ≡ true → AreOlderCommitted batches
    → AreOlderCommitted (w ∷ batches)
older-cons w [] committed older = tt
older-cons w (x ∷ batches) committed older = (committed, older)

pub older-rest : (w : WriteOut) (newer : List WriteOut) → AreOlderCommitted (w ∷ newer) → AreOlderCommitted newer
older-rest w [] older = tt
older-rest w (x ∷ newer) older = older.1

pub older-push : (batches : List WriteOut) (w : WriteOut) → has_uncommitted batches ≡ false
    → AreOlderCommitted (batches ++ w ∷ [])
older-push [] w none = tt
older-push (x ∷ batches) w none = let parts = committed_parts x batches none in
    older-cons x (batches ++ w ∷ []) parts.0 (older-push batches w parts.1)

pub older-stepped : (P : WriteOut → Type 0) (xs ys : List WriteOut) → AreStepped P xs ys → AreOlderCommitted xs
    → AreOlderCommitted ys
older-stepped P [] [] are older = tt
older-stepped P (x ∷ []) (y ∷ []) are older = tt
older-stepped P (x ∷ a ∷ xs) (y ∷ b ∷ ys) are older =
    (one_committed P x y are.0 older.0, older-stepped P (a ∷ xs) (b ∷ ys) are.1 older.1)
older-stepped P (x ∷ []) (y ∷ b ∷ ys) are older = absurd are.1
older-stepped P (x ∷ a ∷ xs) (y ∷ []) are older = absurd are.1
older-stepped P [] (y ∷ ys) are older = absurd are
older-stepped P (x ∷ xs) [] are older = absurd are

pub committed-stepped : (P : WriteOut → Type 0) (xs ys : List WriteOut) → AreStepped P xs ys
    → has_uncommitted xs ≡ false → has_uncommitted ys ≡ false
committed-stepped P [] [] are none = refl
committed-stepped P (x ∷ xs) (y ∷ ys) are none =
    let parts = committed_parts x xs none in
    or_from (not (has_committed y)) (has_uncommitted ys)
    (not_from_true (has_committed y) (one_committed P x y are.0 parts.0)) (committed-stepped P xs ys are.1 parts.1)
committed-stepped P xs ys are none = absurd are

-- one that isn't committed is the newest
pub newest_alone : (older : List WriteOut) (w : WriteOut) (newer : List WriteOut)
    → AreOlderCommitted (older ++ w ∷ newer) → has_committed w ≡ false → newer ≡ []
newest_alone [] w [] are early = refl
newest_alone [] w (x ∷ newer) are early = absurd (both_ways (has_committed w) early are.0)
newest_alone (x ∷ older) w newer are early =
    newest_alone older w newer (older-rest x (older ++ w ∷ newer) are) early

pub older_late : (older : List WriteOut) (w : WriteOut) (newer : List WriteOut)
    → AreOlderCommitted (older ++ w ∷ newer) → has_uncommitted older ≡ false
older_late [] w newer are = refl
older_late (x ∷ []) w newer are = or_from (not (has_committed x)) false (not_from_true (has_committed x) are.0) refl
older_late (x ∷ y ∷ older) w newer are = or_from (not (has_committed x)) (has_uncommitted (y ∷ older))
    (not_from_true (has_committed x) are.0) (older_late (y ∷ older) w newer are.1)

-- a step of one that isn't committed is of the newest alone
pub record IsNewest (shares : Bool) (batches : List WriteOut) (w : WriteOut) : Type 0 where
  pub older : List WriteOut
  pub are : batches ≡ older ++ w ∷ []
  pub late : has_uncommitted older ≡ false
  pub after : moved shares batches ≡ older ++ advanced_of w ∷ []

pub newest_step : (shares : Bool) (batches : List WriteOut) (w : WriteOut) → AreOlderCommitted batches
    → moving shares batches ≡ Some w → has_committed w ≡ false → IsNewest shares batches w
newest_step shares batches w older is early =
    let step = step_of shares batches w is in
    let there = subst AreOlderCommitted step.are older in
    let alone : step.newer ≡ [] = newest_alone step.older w step.newer there early in
    record {
      older = step.older;
      are = step.are ∙ ap (λ (l : List WriteOut). step.older ++ w ∷ l) alone;
      late = older_late step.older w step.newer there;
      after = step.after ∙ ap (λ (l : List WriteOut). step.older ++ advanced_of w ∷ joined shares w l) alone
          ∙ ap (λ (l : List WriteOut). step.older ++ advanced_of w ∷ l) (joined-none shares w);
    }

-- what each batch has, it still has
pub all_after : (P : Batch → Type 0) (shares : Bool) (answer : Flushed) (batches : List WriteOut)
    → All (λ w. P w.batch) batches → All (λ w. P w.batch) (batches_after shares answer batches)
all_after P shares answer batches all = λ k d within.
    let before = batch_before shares answer batches _
    (Contains-get_or (batches_after shares answer batches) k d within) in
    subst P before.2 (All-contains (λ w. P w.batch) batches before.0 all before.1)

-- ---- what waits after a step

only_waits : (w : WriteOut) → waiting (w ∷ []) ≡ waits_of w
only_waits w = Rattle.std.proofs.lemmas.List.append-nil (waits_of w)

waits-advanced : (w : WriteOut) → waits_of (advanced_of w) ≡ drop 1 (waits_of w)
waits-advanced w = sym (drop-drop 1 w.steps w.batch.homes)

newest_waits : (older : List WriteOut) (w : WriteOut) → has_uncommitted older ≡ false
    → waiting (older ++ w ∷ []) ≡ waits_of w
newest_waits [] w none = only_waits w
newest_waits (x ∷ older) w none =
    let parts = committed_parts x older none in
    ap (λ (l : List ℕ). l ++ waiting (older ++ w ∷ [])) (committed_waits x parts.0) ∙ newest_waits older w parts.1

-- a step that writes a record ends the wait of the first home block
pub record Recorded (shares : Bool) (batches : List WriteOut) (i : ℕ) : Type 0 where
  pub w : WriteOut
  pub is : moving shares batches ≡ Some w
  pub steps : w.steps ≡ i
  pub within : i < length w.batch.homes
  pub before : waiting batches ≡ waits_of w
  pub after : waiting (moved shares batches) ≡ drop 1 (waits_of w)

pub recorded : (shares : Bool) (batches : List WriteOut) (i : ℕ) → AreOlderCommitted batches
    → option_and_then next_record (moving shares batches) ≡ Some i → Recorded shares batches i
recorded shares batches i older is = by (moving shares batches) refl is
  where
    by : (o : Option WriteOut) → moving shares batches ≡ o → option_and_then next_record o ≡ Some i
        → Recorded shares batches i
    by None mover e = absurd (cc)
    by (Some w) mover e =
        let at = record_steps w i e in
        let early : has_committed w ≡ false = false_from_ne_true (has_committed w)
        (λ late. let many = committed_steps w late in absurd (omega (arith, at.0, at.1, many))) in
        let newest = newest_step shares batches w older mover early in
        record {
          w = w;
          is = mover;
          steps = at.0;
          within = at.1;
          before = ap waiting newest.are ∙ newest_waits newest.older w newest.late;
          after = ap waiting newest.after ∙ newest_waits newest.older (advanced_of w) newest.late ∙ waits-advanced w;
        }

-- one that isn't ahead has no record to write
behind_steps : (w : WriteOut) → is_at is_ahead w ≡ false → blocks w ≤ w.steps
behind_steps w behind = by (next_record w) refl
  where
    recording : (o : Option Stage) (i : ℕ) → option_and_then record_at o ≡ Some i
        → option_map_or is_ahead o false ≡ false → ⊥
    recording None i e none = absurd (cc)
    recording (Some (Recording k)) i e none = both_ways true none refl
    recording (Some stage) i e none = absurd (cc)

    by : (o : Option ℕ) → next_record w ≡ o → blocks w ≤ w.steps
    by None none = no_record_steps w none
    by (Some i) some = absurd (recording (next_stage w) i some behind)

-- steps of others leave what waits
pub waiting-stepped : (P : WriteOut → Type 0) (xs ys : List WriteOut) → ((x : WriteOut) → P x → blocks x ≤ x.steps)
    → AreStepped P xs ys → waiting ys ≡ waiting xs
waiting-stepped P [] [] past are = refl
waiting-stepped P (x ∷ xs) (y ∷ ys) past are =
    ap (λ (l : List ℕ). l ++ waiting ys) (one are.0)
    ∙ ap (λ (l : List ℕ). waits_of x ++ l) (waiting-stepped P xs ys past are.1)
  where
    one : ((y ≡ x) ⊎ ((y ≡ advanced_of x) × P x)) → waits_of y ≡ waits_of x
    one (inl same) = ap waits_of same
    one (inr step) =
        let many = past x step.1 in
        ap waits_of step.0 ∙ none_waits (advanced_of x) (omega (arith, many)) ∙ sym (none_waits x many)
waiting-stepped P xs ys past are = absurd are

pub waiting-behind : (xs ys : List WriteOut) → AreStepped (λ x. is_at is_ahead x ≡ false) xs ys
    → waiting ys ≡ waiting xs
waiting-behind xs ys are = waiting-stepped (λ x. is_at is_ahead x ≡ false) xs ys behind_steps are

-- any other step leaves what waits
pub unrecorded : (shares : Bool) (batches : List WriteOut)
    → option_and_then next_record (moving shares batches) ≡ None → waiting (moved shares batches) ≡ waiting batches
unrecorded shares batches none =
    waiting-stepped (Makes shares batches) batches (moved shares batches) past (each_stepped shares batches)
  where
    past : (x : WriteOut) → Makes shares batches x → blocks x ≤ x.steps
    past x (inl mover) = no_record_steps x (sym (ap (λ (o : Option WriteOut). option_and_then next_record o) mover)
        ∙ none)
    past x (inr behind) = behind_steps x behind
