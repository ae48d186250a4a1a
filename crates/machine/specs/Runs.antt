-- Sequences of steps of a machine over any device.
use Rattle.std.specs.Prelude.{ℕ, ◌≡◌, ◌↔◌, List, [], ◌∷◌, length}
use Rattle.device.specs.declared.device.Device.{Ghosts}
use Rattle.machine.specs.declared.act.Reply.{Reply}
use Rattle.machine.specs.declared.act.Step.{Step}
use Rattle.machine.specs.State.{Whole}
use Rattle.machine.specs.Rules.{Rules}
use Rattle.machine.specs.Calls.{CallsOf}
use Rattle.machine.specs.Devices.{DeviceAfter}
use Rattle.machine.specs.Steps.{StepMade}

-- One step of a machine over any device, honest or not. The rules hold for some bytes. On an honest device they hold
-- for the device's own bytes. The record also describes the device after the step, its device calls, and the failed
-- ones.
pub record StepTaken {D : Type 0} (disk : Ghosts D) (old : Whole D) (step : Step) (reply : Reply)
    (new : Whole D) : Type 0 where
  pub answered : (d d' : List ℕ) × Rules old.state d step reply new.state d'
  pub made : disk.is_honest old.device → StepMade disk old step reply new
  pub device : DeviceAfter disk old.state step.p step.act reply old.device new.device
  pub calls : CallsOf old.state step.p step.act reply (disk.calls_made old.device) (disk.calls_made new.device)
      (disk.faults_met old.device) (disk.faults_met new.device)
  pub honest : disk.is_honest new.device ↔ disk.is_honest old.device
  pub len : length (disk.seen new.device) ≡ length (disk.seen old.device)

-- These steps lead from `old` to `new`, with these replies and a machine between any two steps.
abbrev pub StepsTaken : {D : Type 0} → Ghosts D → Whole D → List Step → List Reply → Whole D → Type 0
StepsTaken disk old [] [] new = new ≡ old
StepsTaken {D} disk old (step ∷ steps) (reply ∷ replies) new =
    (mid : Whole D) × StepTaken disk old step reply mid × StepsTaken disk mid steps replies new
StepsTaken disk old steps replies new = ⊥
