-- The write-out of one batch, alone in its volume, and the device: the states that its steps lead to, from a volume at
-- rest. Old is the volume's contents before the write-out. New is Old with the batch's blocks.
use Rattle.std.specs.Prelude.{ℕ, ◌≡◌, ◌⊎◌, false, List, [], length, Contains, Some, IsSome}
use Rattle.device.specs.Device.{Only}
use Rattle.device.specs.Did.{Did}
use Rattle.device.specs.declared.device.Device.{Ghosts}
use Rattle.volume_codec.specs.Layout.{block_at}
use Rattle.volume_codec.specs.Super.{SuperValue, geometry_of}
use Rattle.volume_codec.specs.Recovery.{Batch, IsVolume}
use Rattle.journal.specs.declared.flushed.Flushed.{Flushed}
use Rattle.journal.specs.declared.flushed.Flushed.TheVariants.{Device}
use Rattle.journal.specs.Work.{has_done}
use Rattle.journal.specs.WriteOut.{FlushValue, IsBatch, next_stage, flush_of}
use Rattle.journal.specs.WriteOut.{flush_home, flush_work, flush_answer, flush_after}

-- The device contains a volume whose journals are closed, all of it is synced, and `batch` is a batch of this volume.
pub record MayBeginAlone {D : Type 0} (disk : Ghosts D) (v : SuperValue) (batch : Batch) (device : D) : Type 0 where
  pub is_batch : IsBatch (geometry_of v) batch
  pub volume : IsVolume v [] (disk.seen device)
  pub synced : Only (disk.may_leave device) (disk.seen device)

-- A step of the write-out on an honest device. The step gets `bytes` as a record's bytes, and answers `answer`.
-- `before` and `after` are the device before and after the step.
pub record IsStepAlone {D : Type 0} (disk : Ghosts D) (flush : FlushValue) (bytes : List ℕ) (answer : Flushed)
    (before after : D) : Type 0 where
  pub whole : flush.broken ≡ false
  pub going : IsSome (next_stage flush.write_out)
  pub a_block : length bytes ≡ 4096
  pub answered : (answer ≡ flush_answer flush) ⊎ (answer ≡ Device)
  pub honest : disk.is_honest before
  pub did : Did disk before (flush_work flush bytes) (has_done answer) after

pub data HasLedAlone {D : Type 0} (disk : Ghosts D) (v : SuperValue)
    : FlushValue → (ℕ → List ℕ) → (ℕ → List ℕ) → D → Type 0 where
  -- Before the first step, Old is the home blocks. New may be any contents that agree with Old outside the batch.
  BegunAlone : (batch : Batch) (room : ℕ) (new : ℕ → List ℕ) (device : D) → MayBeginAlone disk v batch device
      → ((b : ℕ) → (Contains batch.homes b → ⊥) → new b ≡ block_at (disk.seen device) b)
      → HasLedAlone disk v (flush_of (geometry_of v) batch room) (block_at (disk.seen device)) new device
  -- A step that writes a record gets the block of New.
  SteppedAlone : (flush : FlushValue) (old new : ℕ → List ℕ) (bytes : List ℕ) (answer : Flushed) (before after : D)
      → IsStepAlone disk flush bytes answer before after
      → ((home : ℕ) → flush_home flush ≡ Some home → bytes ≡ new home)
      → HasLedAlone disk v flush old new before → HasLedAlone disk v (flush_after flush answer) old new after
