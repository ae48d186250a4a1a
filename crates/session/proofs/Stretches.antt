-- Steps after steps: what was made, and that it reads and stores nothing.
use Rattle.std.proofs.Common.{◌≡◌, Bool, true, false, not, List, [], ◌∷◌, ◌++◌, refl, sym, ◌∙◌, ap, subst}
use Rattle.device.specs.declared.device.Device.{Ghosts}
use Rattle.machine.specs.declared.act.Reply.{Reply}
use Rattle.machine.specs.declared.act.Step.{Step}
use Rattle.machine.specs.State.{Whole}
use Rattle.machine.proofs.Public.{taken_then}
use Rattle.session.specs.declared.notes.Notes.{Notes}
use Rattle.session.specs.Notes.{noted_after, noted_all}
use Rattle.session.specs.Ranges.{MakesStepsThat}
use Rattle.session.specs.Steps.{Makes}
use Rattle.session.specs.inside.Made.{HasMade}

pub noted_then : (before : Notes) (replies more : List Reply)
    → noted_all before (replies ++ more) ≡ noted_all (noted_all before replies) more
noted_then before [] more = refl
noted_then before (reply ∷ replies) more = noted_then (noted_after before reply) replies more

-- no step
pub makes_none : {D : Type 0} (disk : Ghosts D) (old : Whole D) (before : Notes)
    → Makes disk old before [] [] old before
makes_none disk old before = record { taken = refl; notes = refl }

pub makes_then : {D : Type 0} (disk : Ghosts D) (old mid new : Whole D) (before between after : Notes)
    (steps : List Step) (replies : List Reply) (steps' : List Step) (replies' : List Reply)
    → Makes disk old before steps replies mid between → Makes disk mid between steps' replies' new after
    → Makes disk old before (steps ++ steps') (replies ++ replies') new after
makes_then disk old mid new before between after steps replies steps' replies' first later = record {
  taken = taken_then disk old mid new steps replies steps' replies' first.taken later.taken;
  notes = later.notes ∙ ap (λ n. noted_all n replies') first.notes ∙ sym (noted_then before replies replies');
}

-- ---- steps of which something holds

pub does_one : {D : Type 0} (disk : Ghosts D) (old new : Whole D) (before after : Notes)
    (what : List Step → List Reply → Type 0) (step : Step) (reply : Reply) → what (step ∷ []) (reply ∷ [])
    → Makes disk old before (step ∷ []) (reply ∷ []) new after → MakesStepsThat disk old before what new after
does_one disk old new before after what step reply holds made =
    record { steps = step ∷ []; replies = reply ∷ []; makes = made; holds = holds }

-- and then others, by what holds of both
pub does_then : {D : Type 0} (disk : Ghosts D) (old mid new : Whole D) (before between after : Notes)
    (what then both : List Step → List Reply → Type 0)
    → ((steps : List Step) (replies : List Reply) (steps' : List Step) (replies' : List Reply) → what steps replies
    → then steps' replies' → both (steps ++ steps') (replies ++ replies'))
    → MakesStepsThat disk old before what mid between → MakesStepsThat disk mid between then new after
    → MakesStepsThat disk old before both new after
does_then disk old mid new before between after what then both holds first later = record {
  steps = first.steps ++ later.steps;
  replies = first.replies ++ later.replies;
  makes = makes_then disk old mid new before between after first.steps first.replies later.steps later.replies
      first.makes later.makes;
  holds = holds first.steps first.replies later.steps later.replies first.holds later.holds;
}

-- a step first
pub does_first : {D : Type 0} (disk : Ghosts D) (old mid new : Whole D) (before between after : Notes)
    (what both : List Step → List Reply → Type 0) (step : Step) (reply : Reply)
    → ((steps : List Step) (replies : List Reply) → what steps replies → both (step ∷ steps) (reply ∷ replies))
    → Makes disk old before (step ∷ []) (reply ∷ []) mid between → MakesStepsThat disk mid between what new after
    → MakesStepsThat disk old before both new after
does_first disk old mid new before between after what both step reply holds first later = record {
  steps = step ∷ later.steps;
  replies = reply ∷ later.replies;
  makes = makes_then disk old mid new before between after (step ∷ []) (reply ∷ []) later.steps later.replies
      first later.makes;
  holds = holds later.steps later.replies later.holds;
}

pub does_nothing : {D : Type 0} (disk : Ghosts D) (old : Whole D) (before : Notes)
    (what : List Step → List Reply → Type 0) → what [] [] → MakesStepsThat disk old before what old before
does_nothing disk old before what holds =
    record { steps = []; replies = []; makes = makes_none disk old before; holds = holds }

-- what was done is more than was asked
pub does_more : {D : Type 0} (disk : Ghosts D) (old new : Whole D) (before after : Notes)
    (what more : List Step → List Reply → Type 0)
    → ((steps : List Step) (replies : List Reply) → what steps replies → more steps replies)
    → MakesStepsThat disk old before what new after
    → MakesStepsThat disk old before more new after
does_more disk old new before after what more all it =
    record { steps = it.steps; replies = it.replies; makes = it.makes; holds = all it.steps it.replies it.holds }

-- whatever was made
pub made_none : {D : Type 0} (disk : Ghosts D) (old : Whole D) (before : Notes) → HasMade disk old before old before
made_none disk old before = record { steps = []; replies = []; makes = makes_none disk old before }

pub made_then : {D : Type 0} (disk : Ghosts D) (old mid new : Whole D) (before between after : Notes)
    → HasMade disk old before mid between → HasMade disk mid between new after → HasMade disk old before new after
made_then disk old mid new before between after first later = record {
  steps = first.steps ++ later.steps;
  replies = first.replies ++ later.replies;
  makes = makes_then disk old mid new before between after first.steps first.replies later.steps later.replies
      first.makes later.makes;
}

pub made_one : {D : Type 0} (disk : Ghosts D) (old new : Whole D) (before after : Notes) (step : Step) (reply : Reply)
    → Makes disk old before (step ∷ []) (reply ∷ []) new after → HasMade disk old before new after
made_one disk old new before after step reply makes = record { steps = step ∷ []; replies = reply ∷ []; makes = makes }

pub made_does : {D : Type 0} (disk : Ghosts D) (old new : Whole D) (before after : Notes)
    (what : List Step → List Reply → Type 0) → MakesStepsThat disk old before what new after
    → HasMade disk old before new after
made_does disk old new before after what it = record { steps = it.steps; replies = it.replies; makes = it.makes }

pub not_true : (b : Bool) → not b ≡ true → b ≡ false
not_true false is = refl
not_true true is = sym is

pub not_false : (b : Bool) → not b ≡ false → b ≡ true
not_false true is = refl
not_false false is = sym is
