-- How many frames are taken: no step that may make a frame free takes one, and one by which a page leaves memory frees
-- one. So a request that makes frames free comes to an end.
use Rattle.std.proofs.Common.{◌≡◌, ◌<◌, ◌≤◌, ℕ, zero, suc, Bool, true, false, if◌then◌else◌, arith}
use Rattle.std.proofs.Common.{List, [], ◌∷◌, Contains, count_by, Option, Some, None, is_some, IsSome}
use Rattle.std.proofs.Common.{refl, ap, subst}
use Rattle.std.proofs.lemmas.Bool.{false≢true}
use Rattle.device.specs.declared.device.Device.{Ghosts}
use Rattle.page_entry.specs.declared.numbers.FilePage.{FilePage}
use Rattle.page_entry.specs.declared.refusal.Refusal.TheVariants as refusals
use Rattle.frames.specs.Frames.{Frame, frame_at, page_of}
use Rattle.frames.proofs.Public.{used_less}
use Rattle.machine.specs.declared.act.Act.{Act}
use Rattle.machine.specs.declared.act.Act.TheVariants as acts
use Rattle.machine.specs.declared.act.Reply.{Reply}
use Rattle.machine.specs.declared.act.Reply.TheVariants as replies
use Rattle.machine.specs.declared.act.Step.{Step}
use Rattle.machine.specs.Rules.{Acts, after_record, is_page_next}
use Rattle.machine.specs.Runs.{StepTaken, StepsTaken}
use Rattle.machine.specs.State.{State, Whole}
use Rattle.session.specs.declared.notes.Notes.{Notes}
use Rattle.session.specs.Ends.{AreForRoom, MakesRoom}
use Rattle.session.specs.Lengths.{set_length_by}
use Rattle.session.specs.Ranges.{MakesStepsThat}
use Rattle.session.specs.Steps.{Makes, is_for_room}

abbrev pub taken_of : State → ℕ
taken_of s = count_by is_some s.hardware.memory.frames

held_some : (o : Option Frame) (owner : FilePage) → page_of o ≡ Some owner → IsSome o
held_some None owner is = absurd (cc)
held_some (Some frame) owner is = refl

-- ---- single acts

module _ (s : State) (d : List ℕ) (p : ℕ) (new : State) (d' : List ℕ) where
  same_taken : new ≡ s → taken_of new ≤ taken_of s
  same_taken is = omega (arith, ap taken_of is)

  -- a record that was written leaves the frames alone
  record_taken : (b : Bool) → taken_of (if b then after_record s else s) ≡ taken_of s
  record_taken true = refl
  record_taken false = refl

  flush_takes : (reply : Reply) → Acts s d p acts.Flush reply new d' → taken_of new ≤ taken_of s
  flush_takes replies.Going made = omega (arith, ap taken_of made.done, record_taken (is_page_next s))
  flush_takes (replies.Committed number) made = omega (arith, ap taken_of made.done, record_taken (is_page_next s))
  flush_takes (replies.Done number) made = omega (arith, ap taken_of made.done, record_taken (is_page_next s))
  flush_takes (replies.Refused refusals.Device) failed = omega (arith, ap taken_of failed.done)
  flush_takes (replies.Refused why) ((reason, done), same) = same_taken done
  flush_takes replies.Nothing ((reason, (none, done)), same) = same_taken done
  flush_takes reply ((reason, it), same) = absurd it

  reclaim_takes : (file page : ℕ) (reply : Reply) → Acts s d p (acts.Reclaim file page) reply new d'
      → taken_of new ≤ taken_of s
  reclaim_takes file page replies.Begun ((reason, (there, done)), same) = omega (arith, ap taken_of done)
  reclaim_takes file page replies.Nothing ((reason, (gone, done)), same) = same_taken done
  reclaim_takes file page (replies.Refused why) ((reason, done), same) = same_taken done
  reclaim_takes file page reply ((reason, it), same) = absurd it

  -- a page leaves memory
  change_frees : Acts s d p acts.Change replies.Reclaimed new d' → taken_of new < taken_of s
  change_frees ((reason, made), same) = omega (
    arith,
    ap taken_of made.done,
    used_less s.hardware.memory made.frame
        (held_some (frame_at s.hardware.memory made.frame) made.owner made.leaves.held),
  )

  room_takes : (act : Act) (reply : Reply) → is_for_room act reply ≡ true → Acts s d p act reply new d'
      → taken_of new ≤ taken_of s
  room_takes (acts.Reclaim file page) reply is rule = reclaim_takes file page reply rule
  room_takes acts.Ack replies.Acked is ((reason, (interrupted, done)), same) = omega (arith, ap taken_of done)
  room_takes acts.Change replies.Reclaimed is rule = omega (arith, change_frees rule)
  room_takes acts.Change replies.Kept is ((reason, made), same) = omega (arith, ap taken_of made.done)
  room_takes acts.Resume replies.Resumed is ((reason, (stalled, done)), same) = omega (arith, ap taken_of done)
  room_takes acts.Flush reply is rule = flush_takes reply rule
  room_takes act reply is rule = absurd (false≢true is)

  room_frees : (act : Act) → is_for_room act replies.Reclaimed ≡ true → Acts s d p act replies.Reclaimed new d'
      → taken_of new < taken_of s
  room_frees (acts.Reclaim file page) is ((reason, it), same) = absurd it
  room_frees acts.Change is rule = change_frees rule
  room_frees acts.Flush is ((reason, it), same) = absurd it
  room_frees act is rule = absurd (false≢true is)

-- ---- steps that were made

module _ {D : Type 0} (disk : Ghosts D) (p : ℕ) where
  steps_take : (old new : Whole D) (steps : List Step) (replied : List Reply) → AreForRoom p steps replied
      → StepsTaken disk old steps replied new → taken_of new.state ≤ taken_of old.state
  steps_take old new [] [] room is = omega (arith, ap (λ (m : Whole D). taken_of m.state) is)
  steps_take old new (step ∷ steps) (reply ∷ replied) room (mid, here, rest) = omega (
    arith,
    room_takes old.state here.answered.0 step.p mid.state here.answered.1 step.act reply room.0.0 here.answered.2,
    steps_take mid new steps replied room.1 rest,
  )
  steps_take old new [] (reply ∷ replied) room taken = absurd taken
  steps_take old new (step ∷ steps) [] room taken = absurd taken

  steps_free : (old new : Whole D) (steps : List Step) (replied : List Reply) → AreForRoom p steps replied
      → Contains replied replies.Reclaimed → StepsTaken disk old steps replied new
      → taken_of new.state < taken_of old.state
  steps_free old new [] [] room (k, within, is) taken = absurd (omega (arith, within))
  steps_free old new (step ∷ steps) (reply ∷ replied) room (zero, within, is) (mid, here, rest) = omega (
    arith,
    room_frees old.state here.answered.0 step.p mid.state here.answered.1 step.act
        (subst (λ (r : Reply). is_for_room step.act r ≡ true) is room.0.0)
        (subst (λ (r : Reply). Acts old.state here.answered.0 step.p step.act r mid.state here.answered.1) is
        here.answered.2),
    steps_take mid new steps replied room.1 rest,
  )
  steps_free old new (step ∷ steps) (reply ∷ replied) room (suc k, within, is) (mid, here, rest) = omega (
    arith,
    room_takes old.state here.answered.0 step.p mid.state here.answered.1 step.act reply room.0.0 here.answered.2,
    steps_free mid new steps replied room.1 (k, omega (arith, within), is) rest,
  )
  steps_free old new [] (reply ∷ replied) room (k, within, is) taken = absurd taken
  steps_free old new (step ∷ steps) [] room (k, within, is) taken = absurd taken

  pub room_frees_frame : (old new : Whole D) (before after : Notes) (all : ℕ)
      → MakesStepsThat disk old before (MakesRoom p true all) new after → taken_of new.state < taken_of old.state
  room_frees_frame old new before after all it =
      steps_free old new it.steps it.replies it.holds.0 it.holds.1 it.makes.taken

  -- an attempt to set a length for which too few frames are free
  pub lacking_takes : (old new : Whole D) (before after : Notes) (file to : ℕ) (reply : Reply)
      → reply ≡ replies.Refused refusals.NoFrame
      → Makes disk old before (set_length_by p file to ∷ []) (reply ∷ []) new after
      → taken_of new.state ≤ taken_of old.state
  lacking_takes old new before after file to reply lacking makes =
      let (mid, here, ends) = makes.taken in
      let P : Reply → Type 0 =
      λ r. Acts old.state here.answered.0 p (acts.SetLength file to) r mid.state here.answered.1 in
      omega (
        arith,
        ap (λ (m : Whole D). taken_of m.state) ends,
        ap taken_of (subst P lacking here.answered.2).0.1,
      )
