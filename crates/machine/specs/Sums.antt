-- The number of device calls in a run, and how many of them fail. The work that the steps request from the device for
-- one write-out.
use Rattle.std.specs.Prelude.{ℕ, ◌≡◌, ◌+◌, ◌==◌, if◌then◌else◌, Bool, List, [], ◌∷◌, ◌++◌}
use Rattle.std.specs.List.{list_any}
use Rattle.device.specs.declared.device.Device.{Ghosts}
use Rattle.journal.specs.Work.{Work, Nothing}
use Rattle.journal.specs.Stage.{may_share}
use Rattle.journal.specs.WriteOut.{WriteOut}
use Rattle.journal.specs.WriteOuts.{WriteOutsValue, shares_syncs, is_at, gives_way}
use Rattle.machine.specs.declared.act.Act.{Act}
use Rattle.machine.specs.declared.act.Reply.{Reply}
use Rattle.machine.specs.declared.act.Step.{Step}
use Rattle.machine.specs.State.{State, Whole}
use Rattle.machine.specs.Steps.{step_work}
use Rattle.machine.specs.Calls.{CallsOf}
use Rattle.machine.specs.Runs.{StepTaken}

-- These steps, with these replies, make `calls` device calls, and `faults` of them fail. They are the sums of the first
-- step's numbers, counted from 0, and those of the other steps.
abbrev pub AddUpTo : {D : Type 0} → Ghosts D → Whole D → List Step → List Reply → Whole D → ℕ → ℕ → Type 0
AddUpTo disk old [] [] new calls faults = (new ≡ old) × (calls ≡ 0) × (faults ≡ 0)
AddUpTo {D} disk old (step ∷ steps) (reply ∷ replies) new calls faults =
    (mid : Whole D) × (first later its theirs : ℕ) × StepTaken disk old step reply mid
    × CallsOf old.state step.p step.act reply 0 first 0 its × AddUpTo disk mid steps replies new later theirs
    × (calls ≡ first + later) × (faults ≡ its + theirs)
AddUpTo disk old steps replies new calls faults = ⊥

-- The device's counts rise by these sums.
pub record CallsAddUp {D : Type 0} (disk : Ghosts D) (old : Whole D) (steps : List Step) (replies : List Reply)
    (new : Whole D) : Type 0 where
  pub calls : ℕ
  pub faults : ℕ
  pub sums : AddUpTo disk old steps replies new calls faults
  pub made : disk.calls_made new.device ≡ disk.calls_made old.device + calls
  pub failed : disk.faults_met new.device ≡ disk.faults_met old.device + faults

-- ---- one write-out

-- The work as a list, which is empty if the work is nothing.
abbrev pub listed_work : Work → List Work
listed_work Nothing = []
listed_work work = work ∷ []

-- The write-outs that make the next step: one, or for a shared sync that one and all newer ones.
abbrev pub stepping : Bool → List WriteOut → List WriteOut
stepping shares [] = []
stepping shares (w ∷ newer) =
    if gives_way shares w newer then stepping shares newer
    else w ∷ (if shares then (if is_at may_share w then newer else []) else [])

-- Whether the write-out of this mark is one of them.
abbrev pub takes_part : ℕ → WriteOutsValue → Bool
takes_part mark outs =
    list_any (λ w. w.batch.mark == mark) (stepping (shares_syncs outs.geometry.layout) outs.batches)

-- What a step requests from the device for the write-out of this mark. It is the work of the step, if the step is one
-- of that write-out. A shared sync is a step of each write-out that shares it.
abbrev pub asked_for : ℕ → State → Act → Reply → List Work
asked_for mark s act reply =
    if takes_part mark s.write_outs then listed_work (step_work s act reply) else []

-- These steps, with these replies, request `works` from the device for the write-out of a mark, in this order.
abbrev pub AskFor : {D : Type 0} → Ghosts D → ℕ → Whole D → List Step → List Reply → Whole D → List Work → Type 0
AskFor disk mark old [] [] new works = (new ≡ old) × (works ≡ [])
AskFor {D} disk mark old (step ∷ steps) (reply ∷ replies) new works =
    (mid : Whole D) × (later : List Work) × StepTaken disk old step reply mid
    × AskFor disk mark mid steps replies new later × (works ≡ asked_for mark old.state step.act reply ++ later)
AskFor disk mark old steps replies new works = ⊥
