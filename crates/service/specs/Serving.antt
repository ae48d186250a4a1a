-- A machine with the trace that led to it.
use Rattle.std.specs.Prelude.{ℕ, ◌≡◌, ◌<◌, ◌≤◌, ◌⊎◌, List, [], ◌∷◌, ◌++◌, length, Option, Some}
use Rattle.device.specs.declared.device.Device.{Ghosts}
use Rattle.page_entry.specs.declared.refusal.Refusal.{Refusal}
use Rattle.page_entry.specs.declared.refusal.Refusal.TheVariants.{BadShape, OutOfMemory}
use Rattle.volume_codec.specs.Files.{File}
use Rattle.machine.specs.declared.act.Reply.{Reply}
use Rattle.machine.specs.declared.act.Step.{Step}
use Rattle.machine.specs.Crashes.{Begins, StepIsSafe, Throughout}
use Rattle.machine.specs.Fresh.{IsFresh}
use Rattle.machine.specs.Laws.{EachStep, FaultsAreServed, IsLawful}
use Rattle.history.specs.Reading.{ReadsBack}
use Rattle.machine.specs.Runs.{StepTaken, StepsTaken}
use Rattle.machine.specs.State.{Whole}
use Rattle.machine.specs.Steps.{observed_first}
use Rattle.machine.specs.Observed.{Observed, observe_all}
use Rattle.service.specs.declared.entry.Entry.{Entry}
use Rattle.service.specs.Marks.{has_unmarked, last_acknowledged, HasReached, Words}
use Rattle.service.specs.Marks.{LeavesCommitted, RaisesCommitted, HasRaised}
use Rattle.service.specs.Trace.{progress_of, steps_of, replies_of}

-- The state that the lock protects: a machine and the trace of its steps. The trace may have at most `capacity`
-- entries. `progress` is the number of its entries that are progress.
pub record SharedState (D : Type 0) : Type 0 where
  pub machine : Whole D
  pub trace : List Entry
  pub capacity : ℕ
  pub progress : ℕ

-- The trace is a legal run that led from `start` to the machine, over any device. `start` is as boot leaves it.
pub record IsServing {D : Type 0} (disk : Ghosts D) (start : Whole D) (s : SharedState D) : Type 0 where
  pub fresh : IsFresh start.state
  pub legal : StepsTaken disk start (steps_of s.trace) (replies_of s.trace) s.machine
  pub few : length s.trace ≤ s.capacity
  pub counted : s.progress ≡ progress_of s.trace

-- The invariant of the lock of a service. The trace is a legal run from the machine with which the service started.
-- This machine has `all` processors, and the trace may have `capacity` entries.
pub record ServesFrom {D : Type 0} (disk : Ghosts D) (start : Option (Whole D)) (all capacity : ℕ) (s : SharedState D)
    : Type 0 where
  pub first : Whole D
  pub start_is : start ≡ Some first
  pub all_are : all ≡ length first.state.hardware.shootdown.processors
  pub capacity_is : s.capacity ≡ capacity
  pub serving : IsServing disk first s

-- At some moment the lock of a service protected a trace that was full, or had more than `seen` entries that are
-- progress.
pub record HasMoved {D : Type 0} (disk : Ghosts D) (start : Option (Whole D)) (all capacity seen : ℕ) : Type 0 where
  pub found : SharedState D
  pub serves : ServesFrom disk start all capacity found
  pub moved : (seen < found.progress) ⊎ (length found.trace ≡ capacity)

-- what can be observed of a trace from this start
abbrev pub observed_by : {D : Type 0} → List File → Whole D → List Entry → Observed
observed_by files start trace = observe_all (observed_first files start.state) (steps_of trace) (replies_of trace)

-- Holds of a machine and its trace if the start was over a volume at rest with these files, on an honest device.
pub record KeepsLaws {D : Type 0} (disk : Ghosts D) (files : List File) (start : Whole D) (s : SharedState D)
    : Type 0 where
  -- A crash may come at any moment of a step, or after it. It leaves bytes that read back as the files after a durable
  -- prefix of the history up to that moment.
  pub headline : Throughout (StepIsSafe disk files) (observed_first files start.state) start (steps_of s.trace)
      (replies_of s.trace) s.machine
  -- A crash now leaves bytes that read back as the files after a durable prefix of the whole trace's history.
  pub left : (c : List ℕ) → disk.may_leave s.machine.device c
      → ReadsBack files (observed_by files start s.trace).history c
  -- Loads, stores and faults are answered according to what was observed before them. After each served fault, the
  -- access that follows at once is answered.
  pub lawful : EachStep (IsLawful files) (observed_first files start.state) (steps_of s.trace) (replies_of s.trace)
  pub served : FaultsAreServed (steps_of s.trace) (replies_of s.trace)

-- The machine made one step. The trace has one more entry, which is this step with its reply.
pub record HasEntered {D : Type 0} (disk : Ghosts D) (old : SharedState D) (step : Step) (reply : Reply)
    (new : SharedState D) : Type 0 where
  pub room : length old.trace < old.capacity
  pub capacity : new.capacity ≡ old.capacity
  pub entry : new.trace ≡ old.trace ++ record { step = step; reply = reply } ∷ []
  pub taken : StepTaken disk old.machine step reply new.machine
  -- If the trace was a legal run from some start, it still is.
  pub kept : (start : Whole D) → IsServing disk start old → IsServing disk start new
  -- A crash at any moment within this step leaves bytes that read back according to the trace before the step. A crash
  -- after it leaves bytes that read back according to the trace with its entry.
  pub safe : (files : List File) (start : Whole D) → IsServing disk start old → Begins disk files start
      → StepIsSafe disk files (observed_by files start old.trace) old.machine step reply new.machine

-- One answered call of a processor. The lock protected a trace of the service. The step and its reply became one more
-- entry of it, and the call raised the horizon as this reply requires. `old` and `new` are the words that this
-- processor had seen before and after the call.
pub record HasCalled {D : Type 0} (disk : Ghosts D) (start : Option (Whole D)) (all capacity : ℕ) (step : Step)
    (reply : Reply) (old new : Words) : Type 0 where
  pub before : SharedState D
  pub after : SharedState D
  pub serves : ServesFrom disk start all capacity before
  pub entered : HasEntered disk before step reply after
  pub reached : HasReached (has_unmarked before.trace) reply new.stalled new.committed
  pub raised : HasRaised (has_unmarked before.trace) reply old new
  -- If this call raises `committed`, it does so to the number of the last acknowledged mark of the trace.
  pub acknowledged : LeavesCommitted old new ⊎ RaisesCommitted (last_acknowledged after.trace) old new

-- the largest number of entries for which a trace may be requested
abbrev pub max_entries : ℕ
max_entries = 1000000

pub record IsCapacity (capacity : ℕ) : Type 0 where
  pub some : 1 ≤ capacity
  pub few : capacity ≤ max_entries

-- Nothing is shared for this reason. `BadShape`: the trace can't have this capacity. `OutOfMemory` is possible with any
-- other capacity.
abbrev pub RefusesCapacity : ℕ → Refusal → Type 0
RefusesCapacity capacity BadShape = IsCapacity capacity → ⊥
RefusesCapacity capacity OutOfMemory = IsCapacity capacity
RefusesCapacity capacity why = ⊥
