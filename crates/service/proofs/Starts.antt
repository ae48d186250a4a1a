-- What is known of a machine that was taken out of its service.
use Rattle.std.proofs.Common.{◌≡◌, ℕ, List, Option, Some, sym, subst}
use Rattle.device.specs.declared.device.Device.{Ghosts}
use Rattle.machine.specs.declared.act.Reply.{Reply}
use Rattle.machine.specs.declared.act.Step.{Step}
use Rattle.machine.specs.Runs.{StepsTaken}
use Rattle.machine.specs.State.{Whole}
use Rattle.service.specs.Serving.{SharedState, ServesFrom}
use Rattle.service.specs.Trace.{steps_of, replies_of}

-- some steps from the service's start led to the machine: those of the trace
pub led_to : {D : Type 0} (disk : Ghosts D) (start : Option (Whole D)) (all capacity : ℕ) (s : SharedState D)
    (machine : Whole D) → machine ≡ s.machine → ServesFrom disk start all capacity s
    → (first : Whole D) × (steps : List Step) × (replies : List Reply) × (start ≡ Some first)
    × StepsTaken disk first steps replies machine
led_to {D} disk start all capacity s machine is serves =
    let steps = steps_of s.trace in
    let replies = replies_of s.trace in
    let Led : Whole D → Type 0 = λ m. StepsTaken disk serves.first steps replies m in
    (serves.first, steps, replies, serves.start_is, subst Led (sym is) serves.serving.legal)
