-- Whole runs of a machine over a device, and what a crash leaves at each moment.
use Rattle.std.specs.Prelude.{ℕ, ◌≡◌, List, [], ◌∷◌}
use Rattle.device.specs.Device.{Only, LeavesOnly}
use Rattle.device.specs.declared.device.Device.{Ghosts}
use Rattle.volume_codec.specs.Files.{File}
use Rattle.volume_codec.specs.Layout.{block_at}
use Rattle.volume_codec.specs.Lengths.{HasLengths, lengths_in}
use Rattle.volume_codec.specs.Recovery.{IsVolume, files_in}
use Rattle.machine.specs.declared.act.Reply.{Reply}
use Rattle.machine.specs.declared.act.Step.{Step}
use Rattle.machine.specs.State.{Whole}
use Rattle.machine.specs.Observed.{Observed, observe}
use Rattle.history.specs.Reading.{ReadsBack}
use Rattle.machine.specs.Fresh.{IsFresh}
use Rattle.machine.specs.Runs.{StepTaken}

-- A run may begin here. The machine is as boot leaves it, over a volume with closed gates, with these files and their
-- lengths. Its device is honest, and a crash leaves the bytes that a read returns.
pub record Begins {D : Type 0} (disk : Ghosts D) (files : List File) (start : Whole D) : Type 0 where
  pub fresh : IsFresh start.state
  pub volume : IsVolume start.state.table [] (disk.seen start.device)
  pub fit : HasLengths start.state.table (block_at (disk.seen start.device))
  pub files_are : files ≡ files_in start.state.table (block_at (disk.seen start.device))
  pub lengths_are : start.state.lengths ≡ lengths_in start.state.table (block_at (disk.seen start.device))
  pub honest : disk.is_honest start.device
  pub synced : Only (disk.may_leave start.device) (disk.seen start.device)

-- One step of a run over an honest device, given what was observed before it. The step was made. A crash within it
-- leaves bytes that recover to the files after a durable prefix of the history before the step. For a crash after it,
-- the history includes the step.
pub record StepIsSafe {D : Type 0} (disk : Ghosts D) (files : List File) (observed : Observed)
    (old : Whole D) (step : Step)
    (reply : Reply) (new : Whole D) : Type 0 where
  pub taken : StepTaken disk old step reply new
  pub honest : disk.is_honest old.device
  pub within : LeavesOnly disk.moment disk.left_since old.device new.device (ReadsBack files observed.history)
  pub after : (c : List ℕ) → disk.may_leave new.device c → ReadsBack files (observe observed step reply).history c

-- A run from `old` to `new`, with a machine between any two steps. `Safe` holds of each step, given what was observed
-- before it.
abbrev pub Throughout : {D : Type 0} → (Observed → Whole D → Step → Reply → Whole D → Type 0) → Observed → Whole D
    → List Step → List Reply → Whole D → Type 0
Throughout Safe observed old [] [] new = new ≡ old
Throughout {D} Safe observed old (step ∷ steps) (reply ∷ replies) new =
    (mid : Whole D) × Safe observed old step reply mid
    × Throughout Safe (observe observed step reply) mid steps replies new
Throughout Safe observed old steps replies new = ⊥
