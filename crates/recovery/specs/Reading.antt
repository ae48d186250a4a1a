-- What a reading finds in a volume without opening it: its open journals as batches, and the lengths of its files.
use Rattle.std.specs.Prelude.{◌≡◌, ◌↔◌, ℕ, List, map}
use Rattle.std.specs.List.{AllByRecursion}
use Rattle.device.specs.Device.{LeavesOnly}
use Rattle.device.specs.declared.device.Device.{Ghosts}
use Rattle.page_entry.specs.declared.refusal.Refusal.{Refusal}
use Rattle.page_entry.specs.declared.refusal.Refusal.TheVariants.{Device, OutOfMemory, Damaged}
use Rattle.volume_codec.specs.Layout.{GeometryValue}
use Rattle.volume_codec.specs.Super.{SuperValue}
use Rattle.volume_codec.specs.Descriptor.{DescriptorValue, IsDescriptor}
use Rattle.volume_codec.specs.Lengths.{HasLengths, lengths_in}
use Rattle.volume_codec.specs.Recovery.{Batch, AreOpen, contents_in}
use Rattle.journal.specs.WriteOut.{IsBatch}
use Rattle.recovery.specs.declared.opening.OpenJournal.{OpenJournal}

-- Nothing was written between `old` and `new`. A read returns the same bytes. A crash now, or at any moment since
-- `old`, leaves only what it might have left at `old`. If the device is honest, a crash now may leave each of these.
pub record IsOnlyRead {D : Type 0} (disk : Ghosts D) (old new : D) : Type 0 where
  pub same : disk.seen new ≡ disk.seen old
  pub left : (c : List ℕ) → disk.may_leave new c → disk.may_leave old c
  pub keeps : disk.is_honest old → (c : List ℕ) → disk.may_leave old c → disk.may_leave new c
  pub time : LeavesOnly disk.moment disk.left_since old new (disk.may_leave old)
  pub honest : disk.is_honest new ↔ disk.is_honest old

-- the batch of an open journal
abbrev pub batch_of : {Z : Type 0} → OpenJournal Z → Batch
batch_of found = record { journal = found.journal; mark = found.descriptor.mark; homes = found.descriptor.homes }

-- the batches of these open journals
abbrev pub batches_of : {Z : Type 0} → List (OpenJournal Z) → List Batch
batches_of found = map (λ journal. batch_of journal) found

-- Each of these batches is one of a volume with this geometry.
abbrev pub AreBatches : GeometryValue → List Batch → Type 0
AreBatches g batches = AllByRecursion (IsBatch g) batches

-- Reading is refused for this reason. `Damaged`: the bytes have no value, as `no_value` states. `Device`: a device call
-- failed. `OutOfMemory`: memory was refused.
abbrev pub RefusesReading : Type 0 → Refusal → Type 0
RefusesReading no_value Damaged = no_value
RefusesReading no_value Device = Unit {0}
RefusesReading no_value OutOfMemory = Unit {0}
RefusesReading no_value _ = ⊥

-- Reading an open journal is refused for this reason. `Damaged`: its bytes are not a descriptor.
abbrev pub RefusesJournal : GeometryValue → List ℕ → Refusal → Type 0
RefusesJournal g bytes refusal = RefusesReading ((d : DescriptorValue) → IsDescriptor g d bytes → ⊥) refusal

-- Reading the journals is refused for this reason. `Damaged`: no list of batches is that of the open journals.
abbrev pub RefusesJournals : GeometryValue → List ℕ → Refusal → Type 0
RefusesJournals g bytes refusal = RefusesReading ((batches : List Batch) → AreOpen g batches bytes → ⊥) refusal

-- These are the lengths of the files to which these bytes recover, if `batches` are the open batches.
pub record AreFound (table : SuperValue) (batches : List Batch) (bytes : List ℕ) (lengths : List ℕ) : Type 0 where
  pub fit : HasLengths table (contents_in table.slots batches bytes)
  pub are : lengths ≡ lengths_in table (contents_in table.slots batches bytes)
