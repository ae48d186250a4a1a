-- Which requests leave the lock and the processors' phases unchanged.
use Rattle.std.specs.Prelude.{ℕ, ◌≡◌, ⊤, List, Some}
use Rattle.shootdown.specs.Shootdown.{state_of}
use Rattle.machine.specs.declared.act.Step.{Step}
use Rattle.machine.specs.State.{State}
use Rattle.session.specs.Requests.{Asked, asks_steps, asks_load, asks_store, asks_commit, asks_length, request_in}

-- The lock is unchanged: free, or held by the same processor for the same change. Each processor is in the same phase
-- as before. So no processor is interrupted, stalled or initiating that wasn't before. Of a change that was in progress
-- before, nothing is acknowledged, made or resumed.
pub record KeepsPhases (old new : State) : Type 0 where
  pub lock : new.hardware.shootdown.lock ≡ old.hardware.shootdown.lock
  pub phases : (p : ℕ) → state_of new.hardware.shootdown p ≡ state_of old.hardware.shootdown p

-- The request leaves the lock and the phases unchanged, unless it consists of steps.
abbrev pub KeepsPhasesFor : Asked → State → State → Type 0
KeepsPhasesFor (asks_steps steps) old new = ⊤
KeepsPhasesFor (asks_load p va count) old new = KeepsPhases old new
KeepsPhasesFor (asks_store p va bytes) old new = KeepsPhases old new
KeepsPhasesFor (asks_commit p) old new = KeepsPhases old new
KeepsPhasesFor (asks_length p file length) old new = KeepsPhases old new

-- The line is a request that consists of steps.
abbrev pub AsksSteps : List ℕ → Type 0
AsksSteps line = (steps : List Step) × (request_in line ≡ Some (asks_steps steps))
