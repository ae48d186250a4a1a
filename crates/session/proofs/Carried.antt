-- Steps after steps, with what they leave of the lock and of the processors' phases.
use Rattle.std.proofs.Common.{◌≡◌, ◌⊎◌, ℕ, true, List, [], ◌∷◌, ◌++◌, refl, subst}
use Rattle.device.specs.declared.device.Device.{Ghosts}
use Rattle.page_entry.specs.declared.refusal.Refusal.TheVariants.{Busy}
use Rattle.spaces.specs.declared.change.Change.{Change}
use Rattle.shootdown.specs.Shootdown.{IsShootdown}
use Rattle.machine.specs.declared.act.Reply.{Reply}
use Rattle.machine.specs.declared.act.Reply.TheVariants.{Nothing, Refused}
use Rattle.machine.specs.declared.act.Step.{Step}
use Rattle.machine.specs.State.{Whole}
use Rattle.session.specs.declared.notes.Notes.{Notes}
use Rattle.session.specs.CarriedOut.{CarriesOut}
use Rattle.session.specs.Lengths.{EndsWaiting, flush_by, reports_begun, reports_refused}
use Rattle.session.specs.Ranges.{MakesStepsThat}
use Rattle.session.specs.Steps.{Makes}
use Rattle.session.specs.inside.Changing.{BeginsChange, IsOver}
use Rattle.session.proofs.Phases.{Begins, IsQuiet, begins_kept, begun_over, keeps_none, keeps_then}
use Rattle.session.proofs.Phases.{step_begins, step_keeps}
use Rattle.session.proofs.Stretches.{does_first, does_more, does_nothing, does_one, does_then}

module _ {D : Type 0} (disk : Ghosts D) where
  pub carries_nothing : (old : Whole D) (before : Notes) (what : List Step → List Reply → Type 0) → what [] []
      → CarriesOut disk old before what old before
  carries_nothing old before what holds =
      record { makes = does_nothing disk old before what holds; phases = keeps_none old.state }

  module _ (old new : Whole D) (before after : Notes) where
    pub carries_one : (what : List Step → List Reply → Type 0) (step : Step) (reply : Reply)
        → Makes disk old before (step ∷ []) (reply ∷ []) new after → IsQuiet step.act reply
        → what (step ∷ []) (reply ∷ []) → CarriesOut disk old before what new after
    carries_one what step reply makes quiet holds = record {
      makes = does_one disk old new before after what step reply holds makes;
      phases = step_keeps disk old new before after step reply makes quiet;
    }

    -- a step of the write-outs after which no other attempt is made
    pub carries_end : (p : ℕ) (answer reply : Reply) → Makes disk old before (flush_by p ∷ []) (reply ∷ []) new after
        → ((reply ≡ Nothing) × (answer ≡ Refused Busy)) ⊎ ((reply ≡ answer) × (reports_refused answer ≡ true))
        → CarriesOut disk old before (EndsWaiting p answer) new after
    carries_end p answer reply makes why = carries_one (EndsWaiting p answer) (flush_by p) reply makes tt
        (record { reply = reply; why = why; steps_are = refl; replies_are = refl })

    -- what was done is more than was asked
    pub carries_more : (what more : List Step → List Reply → Type 0)
        → ((steps : List Step) (replies : List Reply) → what steps replies → more steps replies)
        → CarriesOut disk old before what new after → CarriesOut disk old before more new after
    carries_more what more all it =
        record { makes = does_more disk old new before after what more all it.makes; phases = it.phases }

    -- a step begins a change
    pub begins_one : (what : List Step → List Reply → Type 0) (step : Step) (reply : Reply) (change : Change)
        → IsShootdown old.state.hardware.shootdown → reports_begun reply ≡ true
        → Makes disk old before (step ∷ []) (reply ∷ []) new after → Begins step.act change
        → what (step ∷ []) (reply ∷ []) → BeginsChange disk old before what step.p change new after
    begins_one what step reply change sound is makes begins holds = record {
      makes = does_one disk old new before after what step reply holds makes;
      begins = step_begins disk old new before after step reply change sound is makes begins;
    }

    pub begins_more : (what more : List Step → List Reply → Type 0) (p : ℕ) (change : Change)
        → ((steps : List Step) (replies : List Reply) → what steps replies → more steps replies)
        → BeginsChange disk old before what p change new after → BeginsChange disk old before more p change new after
    begins_more what more p change all it =
        record { makes = does_more disk old new before after what more all it.makes; begins = it.begins }

  module _ (old mid new : Whole D) (before between after : Notes) where
    pub carries_first : (what both : List Step → List Reply → Type 0) (step : Step) (reply : Reply)
        → ((steps : List Step) (replies : List Reply) → what steps replies → both (step ∷ steps) (reply ∷ replies))
        → Makes disk old before (step ∷ []) (reply ∷ []) mid between → IsQuiet step.act reply
        → CarriesOut disk mid between what new after → CarriesOut disk old before both new after
    carries_first what both step reply holds first quiet later = record {
      makes = does_first disk old mid new before between after what both step reply holds first later.makes;
      phases = keeps_then old.state mid.state new.state (step_keeps disk old mid before between step reply first quiet)
          later.phases;
    }

    module _ (what then both : List Step → List Reply → Type 0)
        (holds : (steps : List Step) (replies : List Reply) (steps' : List Step) (replies' : List Reply)
        → what steps replies → then steps' replies' → both (steps ++ steps') (replies ++ replies')) where
      pub carries_then : CarriesOut disk old before what mid between → CarriesOut disk mid between then new after
          → CarriesOut disk old before both new after
      carries_then first later = record {
        makes = does_then disk old mid new before between after what then both holds first.makes later.makes;
        phases = keeps_then old.state mid.state new.state first.phases later.phases;
      }

      pub carries_begins : (p : ℕ) (change : Change) → CarriesOut disk old before what mid between
          → BeginsChange disk mid between then p change new after → BeginsChange disk old before both p change new after
      carries_begins p change first later = record {
        makes = does_then disk old mid new before between after what then both holds first.makes later.makes;
        begins = begins_kept old.state mid.state new.state p change first.phases later.begins;
      }

      -- a change that was begun is made
      pub changes_over : (p : ℕ) (change : Change) → BeginsChange disk old before what p change mid between
          → MakesStepsThat disk mid between then new after → IsOver mid.state new.state
          → CarriesOut disk old before both new after
      changes_over p change first later over = record {
        makes = does_then disk old mid new before between after what then both holds first.makes later;
        phases = begun_over old.state mid.state new.state p change first.begins over;
      }

-- from the same machine
pub carries_from : {D : Type 0} (disk : Ghosts D) (old same new : Whole D) (before noted after : Notes)
    (what : List Step → List Reply → Type 0) → same ≡ old → noted ≡ before
    → CarriesOut disk same noted what new after → CarriesOut disk old before what new after
carries_from disk old same new before noted after what is are it =
    subst (λ m. CarriesOut disk m before what new after) is
    (subst (λ n. CarriesOut disk same n what new after) are it)
