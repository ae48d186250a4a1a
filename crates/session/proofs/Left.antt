-- How many steps the write-outs have left at most: each step of theirs that is made leaves fewer, and no step beside
-- them adds one. So a request that makes them comes to an end.
use Rattle.std.proofs.Common.{◌≡◌, ◌≢◌, inl, inr, ◌<◌, ◌≤◌, ℕ, suc, ◌+◌, ◌-◌, Bool, true, false, if◌then◌else◌}
use Rattle.std.proofs.Common.{List, [], ◌∷◌, length, drop, map, Option, Some, None, refl, sym, ◌∙◌, ap, subst, arith}
use Rattle.std.proofs.lemmas.Bool.{false≢true}
use Rattle.std.proofs.lemmas.Option.{slice_get_within}
use Rattle.std.specs.Option.{option_map_or}
use Rattle.device.specs.declared.device.Device.{Ghosts}
use Rattle.page_entry.specs.declared.refusal.Refusal.TheVariants as refusals
use Rattle.journal.specs.declared.flushed.Flushed.{Flushed}
use Rattle.journal.specs.declared.flushed.Flushed.TheVariants as flushed
use Rattle.journal.specs.declared.stage.Stage.{Stage}
use Rattle.journal.specs.Stage.{stages, stage_at, answer_at}
use Rattle.journal.specs.WriteOut.{WriteOut, advanced_of, next_stage, answer_of}
use Rattle.journal.specs.Stage.{may_share}
use Rattle.journal.specs.WriteOuts.{WriteOutsValue, shares_syncs, is_at, gives_way, moving, joined, moved, outs_moving}
use Rattle.journal.specs.WriteOuts.{batches_after, next_answer}
use Rattle.machine.specs.declared.act.Act.{Act}
use Rattle.machine.specs.declared.act.Act.TheVariants as acts
use Rattle.machine.specs.declared.act.Reply.{Reply}
use Rattle.machine.specs.declared.act.Reply.TheVariants as replies
use Rattle.machine.specs.declared.act.Step.{Step}
use Rattle.machine.specs.Rules.{Acts, FlushMade}
use Rattle.machine.specs.Runs.{StepTaken, StepsTaken}
use Rattle.machine.specs.State.{State, Whole}
use Rattle.session.specs.declared.notes.Notes.{Notes}
use Rattle.session.specs.Commits.{msync_by}
use Rattle.session.specs.Lengths.{reports_later, flush_by, set_length_by, IsTry}
use Rattle.session.specs.Ranges.{MakesStepsThat}
use Rattle.session.specs.Steps.{Makes, is_paging, reports_flushed, reports_reclaim}
use Rattle.session.specs.inside.Made.{AttemptsLength, Waits}

-- one more than the steps that a write-out has left
abbrev pub steps_left : WriteOut → ℕ
steps_left w = suc (length (stages (length w.batch.homes) w.described) - w.steps)

abbrev pub all_left : List WriteOut → ℕ
all_left [] = 0
all_left (w ∷ newer) = steps_left w + all_left newer

abbrev pub left_of : State → ℕ
left_of s = all_left s.write_outs.batches

-- a stage comes next only where steps are left
staged : (blocks described steps : ℕ) (stage : Stage) → stage_at blocks described steps ≡ Some stage
    → steps < length (stages blocks described)
unfolding stage_at
staged blocks described steps stage is = slice_get_within (stages blocks described) steps stage is

one_fewer : (w : WriteOut) → answer_of w ≢ flushed.Broken → steps_left (advanced_of w) < steps_left w
one_fewer w some = go (next_stage w) refl
  where
    go : (o : Option Stage) → next_stage w ≡ o → steps_left (advanced_of w) < steps_left w
    go None is = absurd (some (ap (λ o. option_map_or (answer_at w.batch.mark) o flushed.Broken) is))
    go (Some stage) is = omega (arith, staged (length w.batch.homes) w.described w.steps stage is)

-- one more step of each leaves no more
mapped_no_more : (batches : List WriteOut) → all_left (map advanced_of batches) ≤ all_left batches
mapped_no_more [] = omega arith
mapped_no_more (w ∷ newer) = omega (
  arith,
  mapped_no_more newer,
  later (length (stages (length w.batch.homes) w.described)) w.steps,
)
  where
    later : (a b : ℕ) → suc (a - (b + 1)) ≤ suc (a - b)
    later a b = omega arith

joined_no_more : (shares : Bool) (w : WriteOut) (newer : List WriteOut)
    → all_left (joined shares w newer) ≤ all_left newer
joined_no_more shares w newer = go shares (is_at may_share w)
  where
    go : (a b : Bool)
        → all_left (if a then (if b then map advanced_of newer else newer) else newer) ≤ all_left newer
    go true true = mapped_no_more newer
    go true false = omega arith
    go false b = omega arith

moved_fewer : (shares : Bool) (batches : List WriteOut)
    → option_map_or answer_of (moving shares batches) flushed.Broken ≢ flushed.Broken
    → all_left (moved shares batches) < all_left batches
moved_fewer shares [] some = absurd (some refl)
moved_fewer shares (w ∷ newer) some = go (gives_way shares w newer) some (moved_fewer shares newer)
  where
    go : (b : Bool)
        → option_map_or answer_of (if b then moving shares newer else Some w) flushed.Broken ≢ flushed.Broken
        → (option_map_or answer_of (moving shares newer) flushed.Broken ≢ flushed.Broken
        → all_left (moved shares newer) < all_left newer)
        → all_left (if b then w ∷ moved shares newer else advanced_of w ∷ joined shares w newer) < all_left (w ∷ newer)
    go true some more = omega (arith, more some)
    go false some more = omega (arith, one_fewer w some, joined_no_more shares w newer)

dropped_no_more : (batches : List WriteOut) → all_left (drop 1 batches) ≤ all_left batches
dropped_no_more [] = omega arith
dropped_no_more (w ∷ newer) = omega arith

-- the write-out whose step comes next answers, where the machine isn't broken
answered_moving : (outs : WriteOutsValue) (answer : Flushed) → next_answer outs ≡ answer → answer ≢ flushed.Broken
    → option_map_or answer_of (outs_moving outs) flushed.Broken ≢ flushed.Broken
answered_moving outs answer is some = go outs.broken is
  where
    go : (b : Bool)
        → (if b then flushed.Broken else option_map_or answer_of (outs_moving outs) flushed.Broken) ≡ answer
        → option_map_or answer_of (outs_moving outs) flushed.Broken ≢ flushed.Broken
    go true is none = some (sym is)
    go false is none = some (sym is ∙ none)

module _ (s : State) (d : List ℕ) (p : ℕ) (new : State) (d' : List ℕ) where
  made_left : (answer : Flushed) → FlushMade s d p answer new d'
      → left_of new ≡ all_left (batches_after (shares_syncs s.write_outs.geometry.layout) answer s.write_outs.batches)
  made_left answer made = ap left_of made.done
      ∙ ap (λ a. all_left (batches_after (shares_syncs s.write_outs.geometry.layout) a s.write_outs.batches))
      made.answered

  -- where it answers so, they have fewer left, also with one that is done
  made_fewer : (answer : Flushed) → next_answer s.write_outs ≡ answer → answer ≢ flushed.Broken
      → all_left (moved (shares_syncs s.write_outs.geometry.layout) s.write_outs.batches) < left_of s
  made_fewer answer answered some = moved_fewer (shares_syncs s.write_outs.geometry.layout) s.write_outs.batches
      (answered_moving s.write_outs answer answered some)

  -- a step of the write-outs that was made
  pub flush_fewer : (reply : Reply) → Acts s d p acts.Flush reply new d' → reports_flushed reply ≡ true
      → left_of new < left_of s
  flush_fewer replies.Going made is = omega (
    arith,
    made_left flushed.Going made,
    made_fewer flushed.Going made.answered (λ e. cc),
  )
  flush_fewer (replies.Committed number) made is = omega (
    arith,
    made_left (flushed.Committed number) made,
    made_fewer (flushed.Committed number) made.answered (λ e. cc),
  )
  flush_fewer (replies.Done number) made is = omega (
    arith,
    made_left (flushed.Done number) made,
    made_fewer (flushed.Done number) made.answered (λ e. cc),
    dropped_no_more (moved (shares_syncs s.write_outs.geometry.layout) s.write_outs.batches),
  )
  flush_fewer reply made is = absurd (false≢true is)

  same_left : new ≡ s → left_of new ≤ left_of s
  same_left is = omega (arith, ap left_of is)

  -- a step beside them, or one that isn't made
  flush_keeps : (reply : Reply) → Acts s d p acts.Flush reply new d' → left_of new ≤ left_of s
  flush_keeps replies.Going made = omega (arith, flush_fewer replies.Going made refl)
  flush_keeps (replies.Committed number) made = omega (arith, flush_fewer (replies.Committed number) made refl)
  flush_keeps (replies.Done number) made = omega (arith, flush_fewer (replies.Done number) made refl)
  flush_keeps (replies.Refused refusals.Device) failed = omega (arith, ap left_of failed.done)
  flush_keeps (replies.Refused why) ((reason, done), same) = same_left done
  flush_keeps replies.Nothing ((reason, (none, done)), same) = same_left done
  flush_keeps reply ((reason, it), same) = absurd it

  ack_keeps : (reply : Reply) → Acts s d p acts.Ack reply new d' → left_of new ≤ left_of s
  ack_keeps replies.Acked ((reason, (interrupted, done)), same) = omega (arith, ap left_of done)
  ack_keeps replies.Nothing ((reason, (other, done)), same) = same_left done
  ack_keeps (replies.Refused why) ((reason, done), same) = same_left done
  ack_keeps reply ((reason, it), same) = absurd it

  resume_keeps : (reply : Reply) → Acts s d p acts.Resume reply new d' → left_of new ≤ left_of s
  resume_keeps replies.Resumed ((reason, (stalled, done)), same) = omega (arith, ap left_of done)
  resume_keeps replies.Nothing ((reason, (other, done)), same) = same_left done
  resume_keeps (replies.Refused why) ((reason, done), same) = same_left done
  resume_keeps reply ((reason, it), same) = absurd it

  fix_keeps : (va : ℕ) (write : Bool) (reply : Reply) → Acts s d p (acts.Fix va write) reply new d'
      → left_of new ≤ left_of s
  fix_keeps va write replies.Fixed ((reason, made), same) = omega (arith, ap left_of made.done)
  fix_keeps va write (replies.Refused why) ((reason, done), same) = same_left done
  fix_keeps va write reply ((reason, it), same) = absurd it

  reclaim_keeps : (file page : ℕ) (reply : Reply) → Acts s d p (acts.Reclaim file page) reply new d'
      → left_of new ≤ left_of s
  reclaim_keeps file page replies.Begun ((reason, (there, done)), same) = omega (arith, ap left_of done)
  reclaim_keeps file page replies.Nothing ((reason, (gone, done)), same) = same_left done
  reclaim_keeps file page (replies.Refused why) ((reason, done), same) = same_left done
  reclaim_keeps file page reply ((reason, it), same) = absurd it

  change_keeps : (reply : Reply) → reports_reclaim reply ≡ true → Acts s d p acts.Change reply new d'
      → left_of new ≤ left_of s
  change_keeps replies.Reclaimed is ((reason, made), same) = omega (arith, ap left_of made.done)
  change_keeps replies.Kept is ((reason, made), same) = omega (arith, ap left_of made.done)
  change_keeps reply is rule = absurd (false≢true is)

  paging_keeps : (act : Act) (reply : Reply) → is_paging act reply ≡ true → Acts s d p act reply new d'
      → left_of new ≤ left_of s
  paging_keeps (acts.Load va count) reply is rule = omega (arith, ap left_of rule.0.2)
  paging_keeps (acts.Store va bytes) reply is rule = omega (arith, ap left_of rule.0.2)
  paging_keeps (acts.Fix va write) reply is rule = fix_keeps va write reply rule
  paging_keeps (acts.Reclaim file page) reply is rule = reclaim_keeps file page reply rule
  paging_keeps acts.Ack reply is rule = ack_keeps reply rule
  paging_keeps acts.Change reply is rule = change_keeps reply is rule
  paging_keeps acts.Resume reply is rule = resume_keeps reply rule
  paging_keeps acts.Flush reply is rule = flush_keeps reply rule
  paging_keeps act reply is rule = absurd (false≢true is)

  later_keeps : (file to : ℕ) (reply : Reply) → reports_later reply ≡ true
      → Acts s d p (acts.SetLength file to) reply new d' → left_of new ≤ left_of s
  later_keeps file to (replies.Refused why) is ((reason, done), same) = same_left done
  later_keeps file to reply is rule = absurd (false≢true is)

-- ---- of steps that were made

module _ {D : Type 0} (disk : Ghosts D) where
  abbrev LeftAfter : Whole D → Whole D → Type 0
  LeftAfter old new = left_of new.state ≤ left_of old.state

  pub flushed_fewer : (old new : Whole D) (before after : Notes) (p : ℕ) (reply : Reply)
      → Makes disk old before (flush_by p ∷ []) (reply ∷ []) new after → reports_flushed reply ≡ true
      → left_of new.state < left_of old.state
  flushed_fewer old new before after p reply makes is =
      let (mid, here, ends) = makes.taken in
      subst (λ (m : Whole D). left_of m.state < left_of old.state) (sym ends)
      (flush_fewer old.state here.answered.0 p mid.state here.answered.1 reply here.answered.2 is)

  pub waited_fewer : (old new : Whole D) (before after : Notes) (p : ℕ)
      → MakesStepsThat disk old before (Waits p) new after → left_of new.state < left_of old.state
  waited_fewer old new before after p it =
      flushed_fewer old new before after p it.holds.reply
      (subst (λ l. Makes disk old before (flush_by p ∷ []) l new after) it.holds.replies_are
      (subst (λ l. Makes disk old before l it.replies new after) it.holds.steps_are it.makes)) it.holds.made

  -- an attempt to begin a mark that is busy
  pub busy_keeps : (old new : Whole D) (before after : Notes) (p : ℕ) (reply : Reply)
      → reply ≡ replies.Refused refusals.Busy
      → Makes disk old before (msync_by p ∷ []) (reply ∷ []) new after → LeftAfter old new
  busy_keeps old new before after p reply busy makes =
      let (mid, here, ends) = makes.taken in
      let P : Reply → Type 0 =
      λ r. Acts old.state here.answered.0 p (msync_by p).act r mid.state here.answered.1 in
      omega (arith, ap (λ (m : Whole D). left_of m.state) ends, ap left_of (subst P busy here.answered.2).0.1)

  paging_taken : (old mid : Whole D) (step : Step) (reply : Reply) → is_paging step.act reply ≡ true
      → StepTaken disk old step reply mid → LeftAfter old mid
  paging_taken old mid step reply is here =
      paging_keeps old.state here.answered.0 step.p mid.state here.answered.1 step.act reply is here.answered.2

  later_taken : (old mid : Whole D) (p file to : ℕ) (step : Step) (reply : Reply) → step ≡ set_length_by p file to
      → reports_later reply ≡ true → StepTaken disk old step reply mid → LeftAfter old mid
  later_taken old mid p file to step reply is later here =
      let P : Step → Type 0 = λ s. Acts old.state here.answered.0 s.p s.act reply mid.state here.answered.1 in
      later_keeps old.state here.answered.0 p mid.state here.answered.1 file to reply later (subst P is here.answered.2)

  try_taken : (old mid : Whole D) (p file to : ℕ) (step : Step) (reply : Reply) → IsTry p file to step reply
      → StepTaken disk old step reply mid → LeftAfter old mid
  try_taken old mid p file to step reply (inl (is, later)) here = later_taken old mid p file to step reply is later here
  try_taken old mid p file to step reply (inr paging) here = paging_taken old mid step reply paging.0 here

  -- attempts to begin to set a length, the last of which is busy
  attempts_keep : (old new : Whole D) (p file to : ℕ) (tried : Reply) → tried ≡ replies.Refused refusals.Busy
      → (all : ℕ) (steps : List Step) (replied : List Reply) → AttemptsLength p file to tried all steps replied
      → StepsTaken disk old steps replied new → LeftAfter old new
  attempts_keep old new p file to tried was all (step ∷ steps) (reply ∷ replied) (inl (try, more)) (mid, here, rest) =
      omega (
        arith,
        try_taken old mid p file to step reply try here,
        attempts_keep mid new p file to tried was all steps replied more rest,
      )
  attempts_keep old new p file to tried was all (step ∷ steps) (reply ∷ replied)
      (inr (is, busy, inl (enough, none, silent))) (mid, here, rest) =
      let S : List Step → Type 0 = λ l. StepsTaken disk mid l replied new in
      let T : List Reply → Type 0 = λ l. StepsTaken disk mid [] l new in
      let ends : new ≡ mid = subst T silent (subst S none rest) in
      omega (
        arith,
        ap (λ (m : Whole D). left_of m.state) ends,
        later_taken old mid p file to step reply is (ap reports_later (busy ∙ was)) here,
      )
  attempts_keep old new p file to tried was all (step ∷ steps) (reply ∷ replied)
      (inr (is, busy, inr (other, vain))) taken = absurd (cc)
  attempts_keep old new p file to tried was all [] [] it taken = absurd it
  attempts_keep old new p file to tried was all [] (reply ∷ replied) it taken = absurd it
  attempts_keep old new p file to tried was all (step ∷ steps) [] it taken = absurd it

  pub attempts_left : (old new : Whole D) (before after : Notes) (p file to : ℕ) (tried : Reply)
      → tried ≡ replies.Refused refusals.Busy
      → (all : ℕ) → MakesStepsThat disk old before (AttemptsLength p file to tried all) new after
      → LeftAfter old new
  attempts_left old new before after p file to tried was all it =
      attempts_keep old new p file to tried was all it.steps it.replies it.holds it.makes.taken
