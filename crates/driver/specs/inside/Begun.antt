-- The calls of processors before and after their threads start, and what a run leaves.
use Rattle.std.specs.Prelude.{ℕ, ◌≡◌, ◌⊎◌, List, length, map, slice_get, Some}
use Rattle.device.specs.declared.device.Device.{Ghosts}
use Rattle.machine.specs.declared.act.Step.{Step}
use Rattle.machine.specs.State.{Whole}
use Rattle.scripts.specs.declared.command.Command.{Command}
use Rattle.service.specs.Gathering.{CpuState, answered_calls}
use Rattle.service.specs.Trace.{steps_of, replies_of}
use Rattle.driver.specs.declared.running.Ran.{Ran}
use Rattle.driver.specs.Driver.{acts_of, BeginsWith, RunsFrom}
use Rattle.driver.specs.Programs.{RunsProgram, HaveRunPrograms}

-- The processor of number i made exactly its acts among the steps.
abbrev pub HasMade : List Step → ℕ → CpuState → Type 0
HasMade steps i cpu = (cpu.number ≡ i) × (map (λ a. a.0) cpu.answered ≡ acts_of i steps)

-- Each of these processors made exactly its acts among the steps.
pub record HaveMade (steps : List Step) (cpus : List CpuState) : Type 0 where
  pub each : (i : ℕ) (cpu : CpuState) → slice_get cpus i ≡ Some cpu → HasMade steps i cpu

-- The calls of each of these processors are the first of its acts among the steps, or all of them.
pub record HaveBegun (steps : List Step) (cpus : List CpuState) : Type 0 where
  pub each : (i : ℕ) (cpu : CpuState) → slice_get cpus i ≡ Some cpu
      → (cpu.number ≡ i) × BeginsWith (map (λ a. a.0) cpu.answered) (acts_of i steps)

-- Each of these processors made its acts among the steps, and then ran its program.
pub record HaveRun (steps : List Step) (programs : List (List Command)) (cpus : List CpuState) : Type 0 where
  pub each : (i : ℕ) (cpu : CpuState) → slice_get cpus i ≡ Some cpu
      → (first : CpuState) × HasMade steps i first × RunsProgram (slice_get programs i) first cpu

-- The processors made their steps and ran their programs. Or they only began their steps, and the trace is full.
abbrev pub AreReady : List Step → List (List Command) → ℕ → List CpuState → Type 0
AreReady steps programs capacity cpus =
    ((answered_calls cpus ≡ capacity) × HaveBegun steps cpus) ⊎ HaveRun steps programs cpus

-- A run of these programs left `ran`, on a machine that made these steps before, with a trace of this capacity.
pub record HasRanFrom {D : Type 0} (disk : Ghosts D) (start : Whole D) (steps : List Step)
    (programs : List (List Command)) (capacity : ℕ) (ran : Ran D) : Type 0 where
  pub run : RunsFrom disk start (steps_of ran.trace.items) (replies_of ran.trace.items) ran.device
  pub programs_run : HaveRunPrograms (length start.state.hardware.shootdown.processors) steps programs capacity
      ran.trace.items
