-- The states of a device and its volume's write-outs that batches and steps lead to, from an opened volume. Old is what
-- the volume recovers to without the uncommitted batch. New is Old with that batch's blocks.
use Rattle.std.specs.Prelude.{ℕ, ◌≡◌, ◌≢◌, ◌^◌, ◌<◌, ◌⊎◌, false, List, [], length, Contains, Some}
use Rattle.std.specs.List.{AllByRecursion}
use Rattle.device.specs.Device.{Only}
use Rattle.device.specs.Did.{Did}
use Rattle.device.specs.declared.device.Device.{Ghosts}
use Rattle.volume_codec.specs.Layout.{block_at}
use Rattle.volume_codec.specs.Super.{SuperValue, geometry_of}
use Rattle.volume_codec.specs.Descriptor.{AreHomes}
use Rattle.volume_codec.specs.Recovery.{IsVolume}
use Rattle.journal.specs.declared.flushed.Flushed.{Flushed}
use Rattle.journal.specs.declared.flushed.Flushed.TheVariants.{Device}
use Rattle.journal.specs.Work.{has_done}
use Rattle.journal.specs.WriteOuts.{WriteOutsValue, none_of, has_uncommitted, next_work}
use Rattle.journal.specs.WriteOuts.{next_answer, outs_after, outs_home, is_busy, begun}

-- A batch of these home blocks may begin with this mark.
pub record MayBegin (outs : WriteOutsValue) (mark : ℕ) (homes : List ℕ) : Type 0 where
  pub whole : outs.broken ≡ false
  pub free : is_busy outs ≡ false
  pub some_mark : 0 < mark
  pub small_mark : mark < 2 ^ 64
  pub are_homes : AreHomes outs.geometry homes
  pub newest : AllByRecursion (λ w. w.batch.mark < mark) outs.batches

-- A step of the write-outs on an honest device. The step gets `bytes` as a record's bytes, and answers `answer`.
-- `before` and `after` are the device before and after the step.
pub record IsStep {D : Type 0} (disk : Ghosts D) (outs : WriteOutsValue) (bytes : List ℕ) (answer : Flushed)
    (before after : D) : Type 0 where
  pub whole : outs.broken ≡ false
  pub some : outs.batches ≢ []
  pub a_block : length bytes ≡ 4096
  pub answered : (answer ≡ next_answer outs) ⊎ (answer ≡ Device)
  pub honest : disk.is_honest before
  pub did : Did disk before (next_work outs bytes) (has_done answer) after

pub data HasLedTo {D : Type 0} (disk : Ghosts D) (v : SuperValue)
    : WriteOutsValue → (ℕ → List ℕ) → (ℕ → List ℕ) → D → Type 0 where
  -- At first there is no write-out, all of the volume is synced, and Old and New are its home blocks.
  AtFirst : (device : D) → IsVolume v [] (disk.seen device) → Only (disk.may_leave device) (disk.seen device)
      → HasLedTo disk v (none_of (geometry_of v)) (block_at (disk.seen device)) (block_at (disk.seen device)) device
  -- When a batch begins, New becomes Old. The next New may be any contents that agree with it outside the batch.
  Begun : (outs : WriteOutsValue) (old new next : ℕ → List ℕ) (mark : ℕ) (homes : List ℕ) (device : D)
      → MayBegin outs mark homes → ((b : ℕ) → (Contains homes b → ⊥) → next b ≡ new b)
      → HasLedTo disk v outs old new device → HasLedTo disk v (begun outs mark homes) new next device
  -- If each batch is committed, Old may be any contents.
  AnyOld : (outs : WriteOutsValue) (old other new : ℕ → List ℕ) (device : D) → has_uncommitted outs.batches ≡ false
      → HasLedTo disk v outs old new device → HasLedTo disk v outs other new device
  -- A step that writes a record gets the block of New.
  Stepped : (outs : WriteOutsValue) (old new : ℕ → List ℕ) (bytes : List ℕ) (answer : Flushed) (before after : D)
      → IsStep disk outs bytes answer before after → ((home : ℕ) → outs_home outs ≡ Some home → bytes ≡ new home)
      → HasLedTo disk v outs old new before → HasLedTo disk v (outs_after outs answer) old new after
