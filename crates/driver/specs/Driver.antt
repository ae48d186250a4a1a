-- Runs of programs on a machine that was booted over a device: what a run leaves, and why there is none.
use Rattle.std.specs.Prelude.{ℕ, ◌≡◌, ◌≢◌, ◌==◌, ◌<◌, ◌⊎◌, ⊤, List, ◌++◌, length, map, filter, Option, Some, None}
use Rattle.device.specs.declared.device.Device.{Ghosts}
use Rattle.machine.specs.declared.act.Act.{Act}
use Rattle.machine.specs.declared.act.Reply.{Reply}
use Rattle.machine.specs.declared.act.Shape.{Shape}
use Rattle.machine.specs.declared.act.Step.{Step}
use Rattle.machine.specs.State.{Whole}
use Rattle.engine.specs.Engine.{HasNotStarted, HasRun, HasStarted}
use Rattle.service.specs.declared.entry.Entry.{Entry}
use Rattle.service.specs.Serving.{RefusesCapacity}
use Rattle.service.specs.Trace.{of_processor}
use Rattle.driver.specs.declared.running.Ended.{Ended}
use Rattle.driver.specs.declared.running.Ended.TheVariants as ended
use Rattle.driver.specs.declared.running.NotRun.{NotRun}
use Rattle.driver.specs.declared.running.NotRun.TheVariants.{Start, Share, Gather}

-- the acts of one processor among these steps, in order
abbrev pub acts_of : ℕ → List Step → List Act
acts_of p steps = map (λ s. s.act) (filter (λ s. s.p == p) steps)

-- The list `all` begins with the list `first`.
abbrev pub BeginsWith : {A : Type 0} → List A → List A → Type 0
BeginsWith {A} first all = (rest : List A) × (all ≡ first ++ rest)

-- In the trace, the acts of each processor begin with its acts among the steps, in order. This may fail only if the
-- trace is full, with `capacity` entries.
abbrev pub AreSetUp : ℕ → List Step → ℕ → List Entry → Type 0
AreSetUp processors steps capacity trace = (length trace ≡ capacity)
    ⊎ ((p : ℕ) → p < processors → BeginsWith (acts_of p steps) (map (λ a. a.0) (of_processor p trace)))

-- The threads can have ended in this way, if the trace has this capacity and this number of entries.
abbrev pub IsEnd : ℕ → ℕ → Ended → Type 0
IsEnd capacity entries ended.Done = entries ≢ capacity
IsEnd capacity entries ended.Full = entries ≡ capacity
IsEnd capacity entries ended.RanOut = ⊤

-- These steps and replies are a run of this machine that left the device `after`. This holds for every device and shape
-- that the machine can have been booted with.
abbrev pub RunsFrom : {D : Type 0} → Ghosts D → Whole D → List Step → List Reply → D → Type 0
RunsFrom {D} disk start steps replies after =
    (before : D) (shape : Shape) → HasStarted disk before shape start → HasRun disk before shape steps replies after

-- If a device was handed back, a run of this machine left it.
abbrev pub IsLeft : {D : Type 0} → Ghosts D → Whole D → Option D → Type 0
IsLeft disk start None = ⊤
IsLeft disk start (Some after) = (steps : List Step) × (replies : List Reply) × RunsFrom disk start steps replies after

-- This machine wasn't shared with a trace of this capacity, or its parts weren't gathered.
abbrev pub HasNotShared : {D : Type 0} → Ghosts D → Whole D → ℕ → NotRun D → Type 0
HasNotShared disk start capacity (Start refusal after) = ⊥
HasNotShared disk start capacity (Share refusal after) = RefusesCapacity capacity refusal × (after ≡ start.device)
HasNotShared disk start capacity (Gather refusal after) = IsLeft disk start after

-- No machine of this shape was booted over the device. Or one was, and then failed in this way.
abbrev pub HasNotRun : {D : Type 0} → Ghosts D → D → Shape → ℕ → NotRun D → Type 0
HasNotRun disk before shape capacity (Start refusal after) = HasNotStarted disk before shape after refusal
HasNotRun {D} disk before shape capacity refused =
    (start : Whole D) × HasStarted disk before shape start × HasNotShared disk start capacity refused
