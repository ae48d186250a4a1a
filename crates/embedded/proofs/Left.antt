-- How many steps the write-outs have left at most: each step that is made leaves fewer. So a request that makes them
-- comes to an end.
use Rattle.std.proofs.Common.{◌≡◌, ◌≢◌, inl, inr, ◌⊎◌, ◌<◌, ◌≤◌, ℕ, suc, ◌+◌, ◌-◌, Bool, true, false, if◌then◌else◌}
use Rattle.std.proofs.Common.{List, [], ◌∷◌, length, drop, map, Option, Some, None, refl, sym, ◌∙◌, ap, subst, arith}
use Rattle.std.proofs.lemmas.Option.{slice_get_within}
use Rattle.std.specs.Option.{option_map_or}
use Rattle.deferred_disk.specs.Deferred.{Deferred}
use Rattle.journal.specs.declared.flushed.Flushed.{Flushed}
use Rattle.journal.specs.declared.flushed.Flushed.TheVariants as flushed
use Rattle.journal.specs.declared.stage.Stage.{Stage}
use Rattle.journal.specs.Stage.{stages, stage_at, answer_at, may_share}
use Rattle.journal.specs.WriteOut.{WriteOut, advanced_of, next_stage, answer_of}
use Rattle.journal.specs.WriteOuts.{WriteOutsValue, shares_syncs, is_at, gives_way, moving, joined, moved, outs_moving}
use Rattle.journal.specs.WriteOuts.{batches_after, next_answer}
use Rattle.pager.specs.State.{PagerState}
use Rattle.embedded.specs.Steps.{MakesStep, Succeeds}

-- one more than the steps that a write-out has left
abbrev pub steps_left : WriteOut → ℕ
steps_left w = suc (length (stages (length w.batch.homes) w.described) - w.steps)

abbrev pub all_left : List WriteOut → ℕ
all_left [] = 0
all_left (w ∷ newer) = steps_left w + all_left newer

abbrev pub left_of : PagerState Deferred → ℕ
left_of s = all_left s.write_outs.batches

-- a stage comes next only where steps are left
staged : (blocks described steps : ℕ) (stage : Stage) → stage_at blocks described steps ≡ Some stage
    → steps < length (stages blocks described)
unfolding stage_at
staged blocks described steps stage is = slice_get_within (stages blocks described) steps stage is

one_fewer : (w : WriteOut) → answer_of w ≢ flushed.Broken → steps_left (advanced_of w) < steps_left w
one_fewer w some = go (next_stage w) refl
  where
    go : (o : Option Stage) → next_stage w ≡ o → steps_left (advanced_of w) < steps_left w
    go None is = absurd (some (ap (λ o. option_map_or (answer_at w.batch.mark) o flushed.Broken) is))
    go (Some stage) is = omega (arith, staged (length w.batch.homes) w.described w.steps stage is)

-- one more step of each leaves no more
mapped_no_more : (batches : List WriteOut) → all_left (map advanced_of batches) ≤ all_left batches
mapped_no_more [] = omega arith
mapped_no_more (w ∷ newer) = omega (
  arith,
  mapped_no_more newer,
  later (length (stages (length w.batch.homes) w.described)) w.steps,
)
  where
    later : (a b : ℕ) → suc (a - (b + 1)) ≤ suc (a - b)
    later a b = omega arith

joined_no_more : (shares : Bool) (w : WriteOut) (newer : List WriteOut)
    → all_left (joined shares w newer) ≤ all_left newer
joined_no_more shares w newer = go shares (is_at may_share w)
  where
    go : (a b : Bool)
        → all_left (if a then (if b then map advanced_of newer else newer) else newer) ≤ all_left newer
    go true true = mapped_no_more newer
    go true false = omega arith
    go false b = omega arith

moved_fewer : (shares : Bool) (batches : List WriteOut)
    → option_map_or answer_of (moving shares batches) flushed.Broken ≢ flushed.Broken
    → all_left (moved shares batches) < all_left batches
moved_fewer shares [] some = absurd (some refl)
moved_fewer shares (w ∷ newer) some = go (gives_way shares w newer) some (moved_fewer shares newer)
  where
    go : (b : Bool)
        → option_map_or answer_of (if b then moving shares newer else Some w) flushed.Broken ≢ flushed.Broken
        → (option_map_or answer_of (moving shares newer) flushed.Broken ≢ flushed.Broken
        → all_left (moved shares newer) < all_left newer)
        → all_left (if b then w ∷ moved shares newer else advanced_of w ∷ joined shares w newer) < all_left (w ∷ newer)
    go true some more = omega (arith, more some)
    go false some more = omega (arith, one_fewer w some, joined_no_more shares w newer)

dropped_no_more : (batches : List WriteOut) → all_left (drop 1 batches) ≤ all_left batches
dropped_no_more [] = omega arith
dropped_no_more (w ∷ newer) = omega arith

-- the write-out whose step comes next answers, where no device call had failed
answered_moving : (outs : WriteOutsValue) (answer : Flushed) → next_answer outs ≡ answer → answer ≢ flushed.Broken
    → option_map_or answer_of (outs_moving outs) flushed.Broken ≢ flushed.Broken
answered_moving outs answer is some = go outs.broken is
  where
    go : (b : Bool)
        → (if b then flushed.Broken else option_map_or answer_of (outs_moving outs) flushed.Broken) ≡ answer
        → option_map_or answer_of (outs_moving outs) flushed.Broken ≢ flushed.Broken
    go true is none = some (sym is)
    go false is none = some (sym is ∙ none)

-- a step that succeeds answers as it was to
pub answered : (s : PagerState Deferred) (a : Flushed) → Succeeds a
    → (a ≡ next_answer s.write_outs) ⊎ (a ≡ flushed.Device) → next_answer s.write_outs ≡ a
answered s a succeeds (inl is) = sym is
answered s a succeeds (inr failed) = absurd (subst Succeeds failed succeeds)

-- a step that succeeds leaves fewer
pub step_fewer : (s new : PagerState Deferred) (answer : Flushed) → Succeeds answer → MakesStep s answer new
    → left_of new < left_of s
step_fewer s new answer succeeds step =
    let now : left_of new ≡ all_left (batches_after shares answer s.write_outs.batches) = ap left_of step.value in
    omega (arith, now, after answer succeeds (answered s answer succeeds step.answered))
  where
    shares : Bool
    shares = shares_syncs s.write_outs.geometry.layout

    fewer : (a : Flushed) → a ≢ flushed.Broken → next_answer s.write_outs ≡ a
        → all_left (moved shares s.write_outs.batches) < left_of s
    fewer a some is = moved_fewer shares s.write_outs.batches (answered_moving s.write_outs a is some)

    after : (a : Flushed) → Succeeds a → next_answer s.write_outs ≡ a
        → all_left (batches_after shares a s.write_outs.batches) < left_of s
    after flushed.Going succeeds is = fewer flushed.Going (λ e. cc) is
    after (flushed.Committed mark) succeeds is = fewer (flushed.Committed mark) (λ e. cc) is
    after (flushed.Done mark) succeeds is = omega (
      arith,
      fewer (flushed.Done mark) (λ e. cc) is,
      dropped_no_more (moved shares s.write_outs.batches),
    )
    after flushed.Device succeeds is = absurd succeeds
    after flushed.Broken succeeds is = absurd succeeds
