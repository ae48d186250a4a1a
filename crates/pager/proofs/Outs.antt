-- Write-outs by a step: which batches are committed before it and after it, and whose record it writes.
use Rattle.std.proofs.Common.{◌≡◌, ℕ, ◌+◌, ◌≤◌, Bool, true, false, not, List, [], ◌∷◌, length}
use Rattle.std.proofs.Common.{cond, Option, Some, None, refl, ap, sym, ◌∙◌, subst, arith, inl, inr}
use Rattle.std.specs.Prelude.{slice_index}
use Rattle.std.specs.List.{AllByRecursion, Contains}
use Rattle.std.specs.Option.{option_map, option_map_or, option_and_then}
use Rattle.std.proofs.lemmas.Bool.{cond-true, cond-false, cases_Bool, both_ways, or_from, not_from_true}
use Rattle.std.proofs.lemmas.List.{get_or_default}
use Rattle.journal.specs.declared.stage.Stage.{Stage}
use Rattle.journal.specs.declared.stage.Stage.TheVariants.{Recording, Describing, SyncingRecords, Opening}
use Rattle.journal.specs.declared.stage.Stage.TheVariants.{Committing, Applying, SyncingHomes, Closing, Finishing}
use Rattle.journal.specs.declared.flushed.Flushed.{Flushed}
use Rattle.journal.specs.declared.flushed.Flushed.TheVariants.{Committed, Device, Broken}
use Rattle.journal.specs.Stage.{is_committed, answer_at}
use Rattle.journal.specs.WriteOut.{WriteOut, next_stage, has_committed, advanced_of, answer_of, next_home, record_at}
use Rattle.journal.specs.WriteOuts.{WriteOutsValue, has_uncommitted, gives_way, joined, moving, moved, outs_moving}
use Rattle.journal.specs.WriteOuts.{next_answer, batches_after}
use Rattle.journal.specs.inside.Sound.{IsOlder, AreInOrder}
use Rattle.journal.proofs.Public.{IsAt, stage_is, committed_parts}
use Rattle.pager.proofs.Stepping.{AllOf, all_after}

-- ---- one write-out

-- its batch is committed once its records, its descriptor and its gate are written and durable
pub committed_steps : (w : WriteOut) → has_committed w ≡ true → length w.batch.homes + w.described + 3 ≤ w.steps
committed_steps w committed = by (next_stage w) (stage_is (length w.batch.homes) w.described w.steps) committed
  where
    by : (o : Option Stage) → IsAt (length w.batch.homes) w.described w.steps o
        → option_map_or is_committed o true ≡ true
        → length w.batch.homes + w.described + 3 ≤ w.steps
    by None at e = omega (arith, at)
    by (Some (Recording i)) at e = absurd (cc)
    by (Some (Describing i)) at e = absurd (cc)
    by (Some SyncingRecords) at e = absurd (cc)
    by (Some Opening) at e = absurd (cc)
    by (Some Committing) at e = absurd (cc)
    by (Some (Applying i)) at e = omega (arith, at.0)
    by (Some SyncingHomes) at e = omega (arith, at)
    by (Some Closing) at e = omega (arith, at)
    by (Some Finishing) at e = omega (arith, at)

steps_committed : (w : WriteOut) → length w.batch.homes + w.described + 3 ≤ w.steps → has_committed w ≡ true
steps_committed w many = by (next_stage w) (stage_is (length w.batch.homes) w.described w.steps)
  where
    by : (o : Option Stage) → IsAt (length w.batch.homes) w.described w.steps o
        → option_map_or is_committed o true ≡ true
    by None at = refl
    by (Some (Recording i)) at = absurd (omega (arith, many, at.0, at.1))
    by (Some (Describing i)) at = absurd (omega (arith, many, at.0, at.1))
    by (Some SyncingRecords) at = absurd (omega (arith, many, at))
    by (Some Opening) at = absurd (omega (arith, many, at))
    by (Some Committing) at = absurd (omega (arith, many, at))
    by (Some (Applying i)) at = refl
    by (Some SyncingHomes) at = refl
    by (Some Closing) at = refl
    by (Some Finishing) at = refl

-- one more step of a committed batch leaves it so
pub committed_still : (w : WriteOut) → has_committed w ≡ true → has_committed (advanced_of w) ≡ true
committed_still w committed = steps_committed (advanced_of w) (omega (arith, committed_steps w committed))

-- the step that answers that the batch of a mark is committed
pub record IsCommitting (w : WriteOut) (mark : ℕ) : Type 0 where
  pub mark_is : w.batch.mark ≡ mark
  pub early : has_committed w ≡ false
  pub late : has_committed (advanced_of w) ≡ true

pub committing : (w : WriteOut) (mark : ℕ) → answer_of w ≡ Committed mark → IsCommitting w mark
committing w mark e = by (next_stage w) refl (stage_is (length w.batch.homes) w.described w.steps) e
  where
    same_mark : (m n : ℕ) → Committed m ≡ Committed n → m ≡ n
    same_mark m n e = cc

    by : (o : Option Stage) → next_stage w ≡ o → IsAt (length w.batch.homes) w.described w.steps o
        → option_map_or (answer_at w.batch.mark) o Broken ≡ Committed mark → IsCommitting w mark
    by None is at e = absurd (cc)
    by (Some (Recording i)) is at e = absurd (cc)
    by (Some (Describing i)) is at e = absurd (cc)
    by (Some SyncingRecords) is at e = absurd (cc)
    by (Some Opening) is at e = absurd (cc)
    by (Some Committing) is at e = record {
      mark_is = same_mark w.batch.mark mark e;
      early = ap (λ (o : Option Stage). option_map_or is_committed o true) is;
      late = steps_committed (advanced_of w) (omega (arith, at));
    }
    by (Some (Applying i)) is at e = absurd (cc)
    by (Some SyncingHomes) is at e = absurd (cc)
    by (Some Closing) is at e = absurd (cc)
    by (Some Finishing) is at e = absurd (cc)

-- ---- all of them

all_committed : (batches : List WriteOut) → has_uncommitted batches ≡ false
    → AllOf (λ w. has_committed w ≡ true) batches
all_committed [] none = tt
all_committed (w ∷ newer) none =
    let parts = committed_parts w newer none in (parts.0, all_committed newer parts.1)

none_left : (batches : List WriteOut) → AllOf (λ w. has_committed w ≡ true) batches → has_uncommitted batches ≡ false
none_left [] all = refl
none_left (w ∷ newer) all = or_from (not (has_committed w)) (has_uncommitted newer)
    (not_from_true (has_committed w) all.0) (none_left newer all.1)

-- where each batch is committed, each is after a step
pub none_after : (shares : Bool) (answer : Flushed) (batches : List WriteOut) → has_uncommitted batches ≡ false
    → has_uncommitted (batches_after shares answer batches) ≡ false
none_after shares answer batches none = none_left (batches_after shares answer batches)
    (all_after (λ w. has_committed w ≡ true) committed_still shares answer batches (all_committed batches none))

-- the one that makes a step is one of them
pub by_mover : (P : WriteOut → Type 0) (shares : Bool) (batches : List WriteOut) → AllOf P batches → (w : WriteOut)
    → moving shares batches ≡ Some w → P w
by_mover P shares [] all w is = absurd (cc)
by_mover P shares (x ∷ newer) all w is = elim (cases_Bool (gives_way shares x newer)) [
  | inl later ↦ by_mover P shares newer all.1 w
      (sym (cond-true (gives_way shares x newer) (moving shares newer) (Some x) later) ∙ is)
  | inr first ↦ (let same : x ≡ w = some_same x w
      (sym (cond-false (gives_way shares x newer) (moving shares newer) (Some x) first) ∙ is) in subst P same all.0)
]
  where
    some_same : (x y : WriteOut) → Some x ≡ Some y → x ≡ y
    some_same x y e = cc

joined-none : (shares : Bool) (w : WriteOut) → has_uncommitted (joined shares w []) ≡ false
joined-none true w = refl_of (joined_empty w)
  where
    joined_empty : (w : WriteOut) → joined true w [] ≡ []
    joined_empty w = grind arith

    refl_of : joined true w [] ≡ [] → has_uncommitted (joined true w []) ≡ false
    refl_of e = ap has_uncommitted e
joined-none false w = refl

-- once a step commits a batch, each batch is committed
pub none_uncommitted : (shares : Bool) (batches : List WriteOut) (mark : ℕ) → AreInOrder batches
    → option_map_or answer_of (moving shares batches) Broken ≡ Committed mark
    → has_uncommitted (moved shares batches) ≡ false
none_uncommitted shares [] mark ordered e = absurd (cc)
none_uncommitted shares (w ∷ newer) mark ordered e = elim (cases_Bool (gives_way shares w newer)) [
  | inl later ↦
      (let rest : option_map_or answer_of (moving shares newer) Broken ≡ Committed mark =
      sym (ap (λ o. option_map_or answer_of o Broken)
      (cond-true (gives_way shares w newer) (moving shares newer) (Some w) later)) ∙ e in
      ap has_uncommitted (cond-true (gives_way shares w newer) (w ∷ moved shares newer)
      (advanced_of w ∷ joined shares w newer) later)
      ∙ or_from (not (has_committed w)) (has_uncommitted (moved shares newer))
      (not_from_true (has_committed w) (older newer ordered.0 rest))
      (none_uncommitted shares newer mark ordered.1 rest))
  | inr first ↦
      (let own : answer_of w ≡ Committed mark = sym (ap (λ o. option_map_or answer_of o Broken)
      (cond-false (gives_way shares w newer) (moving shares newer) (Some w) first)) ∙ e in
      let is = committing w mark own in
      ap has_uncommitted (cond-false (gives_way shares w newer) (w ∷ moved shares newer)
      (advanced_of w ∷ joined shares w newer) first)
      ∙ or_from (not (has_committed (advanced_of w))) (has_uncommitted (joined shares w newer))
      (not_from_true (has_committed (advanced_of w)) is.late) (alone newer ordered.0 is.early))
]
  where
    older : (newer : List WriteOut) → AllByRecursion (IsOlder w) newer
        → option_map_or answer_of (moving shares newer) Broken ≡ Committed mark → has_committed w ≡ true
    older [] all e = absurd (cc)
    older (x ∷ newer) all e = all.0.committed

    alone : (newer : List WriteOut) → AllByRecursion (IsOlder w) newer → has_committed w ≡ false
        → has_uncommitted (joined shares w newer) ≡ false
    alone [] all early = joined-none shares w
    alone (x ∷ newer) all early = absurd (both_ways (has_committed w) early all.0.committed)

-- a step answers that a call failed only where one does
pub never_device : (outs : WriteOutsValue) → next_answer outs ≡ Device → ⊥
never_device outs e = by outs.broken (outs_moving outs) e
  where
    staged : (mark : ℕ) (o : Option Stage) → option_map_or (answer_at mark) o Broken ≡ Device → ⊥
    staged mark None e = cc
    staged mark (Some (Recording i)) e = cc
    staged mark (Some (Describing i)) e = cc
    staged mark (Some SyncingRecords) e = cc
    staged mark (Some Opening) e = cc
    staged mark (Some Committing) e = cc
    staged mark (Some (Applying i)) e = cc
    staged mark (Some SyncingHomes) e = cc
    staged mark (Some Closing) e = cc
    staged mark (Some Finishing) e = cc

    by : (b : Bool) (o : Option WriteOut) → cond b Broken (option_map_or answer_of o Broken) ≡ Device → ⊥
    by true o e = cc
    by false None e = cc
    by false (Some w) e = staged w.batch.mark (next_stage w) e

-- ---- whose record a step writes

-- the home block of a record is one of its batch
pub home_there : (w : WriteOut) (home : ℕ) → next_home w ≡ Some home → Contains w.batch.homes home
home_there w home e = by (next_stage w) (stage_is (length w.batch.homes) w.described w.steps) e
  where
    same : (m n : ℕ) → Some m ≡ Some n → m ≡ n
    same m n e = cc

    by : (o : Option Stage) → IsAt (length w.batch.homes) w.described w.steps o
        → option_map (slice_index w.batch.homes) (option_and_then record_at o) ≡ Some home → Contains w.batch.homes home
    by None at e = absurd (cc)
    by (Some (Recording k)) at e =
        (k, at.1, get_or_default w.batch.homes k home 0 at.1 ∙ same (slice_index w.batch.homes k) home e)
    by (Some (Describing k)) at e = absurd (cc)
    by (Some SyncingRecords) at e = absurd (cc)
    by (Some Opening) at e = absurd (cc)
    by (Some Committing) at e = absurd (cc)
    by (Some (Applying k)) at e = absurd (cc)
    by (Some SyncingHomes) at e = absurd (cc)
    by (Some Closing) at e = absurd (cc)
    by (Some Finishing) at e = absurd (cc)
