-- What a step answers: that it commits the batch, or that it is the last one.
use Rattle.std.proofs.Common.{◌≡◌, ℕ, ◌+◌, ◌<◌, false, true, length, Option, Some, None, refl, sym, ap, arith}
use Rattle.std.specs.Option.{option_map_or}
use Rattle.journal.specs.declared.stage.Stage.{Stage}
use Rattle.journal.specs.declared.stage.Stage.TheVariants.{Recording, Describing, SyncingRecords, Opening}
use Rattle.journal.specs.declared.stage.Stage.TheVariants.{Committing, Applying, SyncingHomes, Closing, Finishing}
use Rattle.journal.specs.declared.flushed.Flushed.TheVariants.{Committed, Broken}
use Rattle.journal.specs.Stage.{is_committed, answer_at}
use Rattle.journal.specs.WriteOut.{WriteOut, next_stage, has_committed, advanced_of, answer_of}
use Rattle.journal.proofs.Stages.{IsAt, stage_is}
use Rattle.journal.proofs.Tying.{false_true}

module _ (w : WriteOut) (mark : ℕ) where
  abbrev k : ℕ
  k = length w.batch.homes

  abbrev d : ℕ
  d = w.described

  abbrev n : ℕ
  n = w.steps

  -- after the step that commits
  committed_then : (o : Option Stage) → IsAt k d (n + 1) o → n ≡ k + d + 2 → option_map_or is_committed o true ≡ true
  committed_then None at e = refl
  committed_then (Some (Recording i)) at e = absurd (omega (arith, at.0, at.1))
  committed_then (Some (Describing i)) at e = absurd (omega (arith, at.0, at.1))
  committed_then (Some SyncingRecords) at e = absurd (omega (arith, at))
  committed_then (Some Opening) at e = absurd (omega (arith, at))
  committed_then (Some Committing) at e = absurd (omega (arith, at))
  committed_then (Some (Applying i)) at e = refl
  committed_then (Some SyncingHomes) at e = refl
  committed_then (Some Closing) at e = refl
  committed_then (Some Finishing) at e = refl

  -- after a step before it
  not_yet : (o : Option Stage) → IsAt k d (n + 1) o → option_map_or is_committed o true ≡ true → n < k + d + 2 → ⊥
  not_yet None at late few = omega (arith, at)
  not_yet (Some (Recording i)) at late few = false_true late
  not_yet (Some (Describing i)) at late few = false_true late
  not_yet (Some SyncingRecords) at late few = false_true late
  not_yet (Some Opening) at late few = false_true late
  not_yet (Some Committing) at late few = false_true late
  not_yet (Some (Applying i)) at late few = omega (arith, at.0)
  not_yet (Some SyncingHomes) at late few = omega (arith, at)
  not_yet (Some Closing) at late few = omega (arith, at)
  not_yet (Some Finishing) at late few = omega (arith, at)

  abbrev Commits : Type 0
  Commits = (mark ≡ w.batch.mark) × (has_committed w ≡ false) × (has_committed (advanced_of w) ≡ true)

  pub answered_commits : answer_of w ≡ Committed mark → Commits
  answered_commits e = by (next_stage w) (stage_is k d n) e
    where
      by : (o : Option Stage) → IsAt k d n o → option_map_or (answer_at w.batch.mark) o Broken ≡ Committed mark
          → (mark ≡ w.batch.mark) × (option_map_or is_committed o true ≡ false)
          × (has_committed (advanced_of w) ≡ true)
      by None at e = cc
      by (Some (Recording i)) at e = cc
      by (Some (Describing i)) at e = cc
      by (Some SyncingRecords) at e = cc
      by (Some Opening) at e = cc
      by (Some Committing) at e =
          (same e, refl, committed_then (next_stage (advanced_of w)) (stage_is k d (n + 1)) at)
        where
          same : {a b : ℕ} → Committed a ≡ Committed b → b ≡ a
          same e = cc
      by (Some (Applying i)) at e = cc
      by (Some SyncingHomes) at e = cc
      by (Some Closing) at e = cc
      by (Some Finishing) at e = cc

  pub commits_answered : Commits → answer_of w ≡ Committed mark
  commits_answered is = by (next_stage w) (stage_is k d n) is.1
    where
      later : n < k + d + 2 → ⊥
      later = not_yet (next_stage (advanced_of w)) (stage_is k d (n + 1)) is.2

      by : (o : Option Stage) → IsAt k d n o → option_map_or is_committed o true ≡ false
          → option_map_or (answer_at w.batch.mark) o Broken ≡ Committed mark
      by None at early = false_true (sym early)
      by (Some (Recording i)) at early = absurd (later (omega (arith, at.0, at.1)))
      by (Some (Describing i)) at early = absurd (later (omega (arith, at.0, at.1)))
      by (Some SyncingRecords) at early = absurd (later (omega (arith, at)))
      by (Some Opening) at early = absurd (later (omega (arith, at)))
      by (Some Committing) at early = ap Committed (sym is.0)
      by (Some (Applying i)) at early = false_true (sym early)
      by (Some SyncingHomes) at early = false_true (sym early)
      by (Some Closing) at early = false_true (sym early)
      by (Some Finishing) at early = false_true (sym early)
