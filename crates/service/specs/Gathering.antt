-- What each processor of a service knows of its own calls, and what is known after all processors were returned.
use Rattle.std.specs.Prelude.{ℕ, ◌≡◌, ◌<◌, ◌≤◌, ◌⊎◌, List, [], length, sum_by, slice_get, Option, Some}
use Rattle.device.specs.declared.device.Device.{Ghosts}
use Rattle.machine.specs.declared.act.Act.{Act}
use Rattle.machine.specs.declared.act.Reply.{Reply}
use Rattle.machine.specs.Fresh.{IsFresh}
use Rattle.machine.specs.Runs.{StepsTaken}
use Rattle.machine.specs.State.{Whole}
use Rattle.service.specs.declared.entry.Entry.{Entry}
use Rattle.service.specs.Marks.{Words}
use Rattle.service.specs.Serving.{SharedState, ServesFrom}
use Rattle.service.specs.Trace.{steps_of, replies_of, of_processor}

-- A processor of a service. `answered` are its acts with their replies, in order. `stalled` and `committed` are the
-- greatest numbers that the processor has seen in these words of the horizon. `stalled_raised` and `committed_raised`
-- are the totals by which its own calls raised each word.
pub record CpuState : Type 0 where
  pub number : ℕ
  pub answered : List (Act × Reply)
  pub stalled : ℕ
  pub committed : ℕ
  pub stalled_raised : ℕ
  pub committed_raised : ℕ

-- the words of the horizon, as the processor has seen them
abbrev pub words_of : CpuState → Words
words_of cpu = record {
  stalled = cpu.stalled;
  committed = cpu.committed;
  stalled_raised = cpu.stalled_raised;
  committed_raised = cpu.committed_raised;
}

-- a processor that has done nothing yet
abbrev pub idle_cpu : ℕ → CpuState
idle_cpu number = record {
  number = number;
  answered = [];
  stalled = 0;
  committed = 0;
  stalled_raised = 0;
  committed_raised = 0;
}

-- The processor with this number is among these.
abbrev pub IsAmong : List CpuState → ℕ → Type 0
IsAmong cpus number = (i : ℕ) × (cpu : CpuState) × (slice_get cpus i ≡ Some cpu) × (cpu.number ≡ number)

-- These are all processors of a service with `all` processors.
pub record AreAll (all : ℕ) (cpus : List CpuState) : Type 0 where
  pub as_many : length cpus ≡ all
  pub whole : (p : ℕ) → p < all → IsAmong cpus p

-- the number of calls of these processors that were answered
abbrev pub answered_calls : List CpuState → ℕ
answered_calls cpus = sum_by (λ cpu. length cpu.answered) cpus

-- The trace's entries of each of these processors are its acts with their replies, in order.
abbrev pub AreAnswered : List Entry → List CpuState → Type 0
AreAnswered trace cpus =
    (i : ℕ) (cpu : CpuState) → slice_get cpus i ≡ Some cpu → of_processor cpu.number trace ≡ cpu.answered

-- At some moment the lock of a service protected a trace with one entry for each answered call of these processors. The
-- entries are not those calls.
pub record IsAnotherTrace {D : Type 0} (disk : Ghosts D) (start : Option (Whole D)) (all capacity : ℕ)
    (cpus : List CpuState) : Type 0 where
  pub found : SharedState D
  pub serves : ServesFrom disk start all capacity found
  pub counted : length found.trace ≡ answered_calls cpus
  pub differs : AreAnswered found.trace cpus → ⊥

-- Processors aren't gathered: one of them is missing, or the trace's entries are not their answered calls.
abbrev pub IsNotGathered : {D : Type 0} → Ghosts D → Option (Whole D) → ℕ → ℕ → List CpuState → Type 0
IsNotGathered disk start all capacity cpus =
    (AreAll all cpus → ⊥) ⊎ IsAnotherTrace disk start all capacity cpus

-- The machine and the trace that a service returns after all its processors were returned.
pub record HasGathered {D : Type 0} (disk : Ghosts D) (start : Option (Whole D)) (capacity : ℕ)
    (cpus : List CpuState) (machine : Whole D) (trace : List Entry) : Type 0 where
  -- The trace is a legal run from the machine with which the service started, which was as boot leaves it.
  pub first : Whole D
  pub start_is : start ≡ Some first
  pub fresh : IsFresh first.state
  pub legal : StepsTaken disk first (steps_of trace) (replies_of trace) machine
  -- The trace has at most the number of entries for which the service was started.
  pub few : length trace ≤ capacity
  -- The trace's entries of each processor are its calls with their replies.
  pub each : AreAnswered trace cpus
  -- The returned processors are all processors of the machine.
  pub as_many : length cpus ≡ length first.state.hardware.shootdown.processors
  pub whole : (p : ℕ) → p < length first.state.hardware.shootdown.processors → IsAmong cpus p
  -- The trace has no other entries.
  pub counted : length trace ≡ answered_calls cpus
