-- How an opening changes a device, what a crash meanwhile may leave, and when an opening is refused.
use Rattle.std.specs.Prelude.{◌≡◌, ◌≢◌, ◌⊎◌, ℕ, ◌+◌, ◌*◌, List, length, sum_by}
use Rattle.std.specs.Prelude.{slice_index, Result, Ok, Err, MatchResult}
use Rattle.std.specs.List.{AllByRecursion}
use Rattle.device.specs.Device.{Only, LeavesOnly}
use Rattle.device.specs.declared.device.Device.{Ghosts}
use Rattle.page_entry.specs.declared.refusal.Refusal.{Refusal}
use Rattle.page_entry.specs.declared.refusal.Refusal.TheVariants.{Device, OutOfMemory, NotAVolume, Damaged}
use Rattle.volume_codec.specs.Layout.{GeometryValue, IsHome, journals_of, lengths_blocks, block_at}
use Rattle.volume_codec.specs.Super.{SuperValue, IsSuper, geometry_of}
use Rattle.volume_codec.specs.Lengths.{HasLengths}
use Rattle.volume_codec.specs.Recovery.{Batch, contents_in, IsVolume, IsNotAVolume, IsDamaged}
use Rattle.journal.specs.Finished.{IsOutside, gate_byte, RecoversSame}
use Rattle.recovery.specs.Counts.{Rises, RisesWithin, IsAccounted}
use Rattle.recovery.specs.Volume.{VolumeState}

-- Nothing was written between `old` and `new`. A read returns the same bytes. A crash now, or at any moment since
-- `old`, leaves only what it might have left at `old`.
pub record IsUnwritten {D : Type 0} (disk : Ghosts D) (old new : D) : Type 0 where
  pub same : disk.seen new ≡ disk.seen old
  pub left : (c : List ℕ) → disk.may_leave new c → disk.may_leave old c
  pub time : LeavesOnly disk.moment disk.left_since old new (disk.may_leave old)

-- These batches were carried out. Each home block contains its recovered bytes. The gates of the batches' journals are
-- closed with the byte 0. Every other byte is as before.
pub record IsOpened (g : GeometryValue) (batches : List Batch) (old new : List ℕ) : Type 0 where
  pub same_length : length new ≡ length old
  pub homes : (b : ℕ) → IsHome g b → block_at new b ≡ contents_in g.slots batches old b
  pub gates : AllByRecursion (λ batch. slice_index new (gate_byte g.slots batch) ≡ 0) batches
  pub others : (i : ℕ) → IsOutside g i → AllByRecursion (λ batch. i ≢ gate_byte g.slots batch) batches
      → slice_index new i ≡ slice_index old i

-- A crash during an opening may leave `c`, in one of two cases. A crash before the opening might have left `c`. Or a
-- read returned a volume before, and `c` recovers to the same contents, with the same bytes past the volume.
abbrev pub LeftByOpening : {D : Type 0} → Ghosts D → D → List ℕ → Type 0
LeftByOpening disk before c = disk.may_leave before c
    ⊎ ((table : SuperValue) × (batches : List Batch) × IsVolume table batches (disk.seen before)
    × RecoversSame table (contents_in table.slots batches (disk.seen before)) (disk.seen before) c)

-- The number of device calls of an opening. It reads block 0, syncs, reads each gate byte, and reads the lengths if the
-- layout has a block for them. For each open batch it reads the descriptor, reads and writes each record, syncs, closes
-- the gate and syncs.
abbrev pub opening_calls : SuperValue → List Batch → ℕ
opening_calls table batches =
    2 + journals_of table.layout + lengths_blocks table.layout + sum_by (λ batch. 2 * length batch.homes + 4) batches

-- A device that contained a volume with this table was opened. Its files had lengths. Its open batches were carried
-- out, and all of it is synced.
pub record HasOpened {D : Type 0} (disk : Ghosts D) (before : D) (table : SuperValue) (after : D) : Type 0 where
  pub batches : List Batch
  pub held : IsVolume table batches (disk.seen before)
  pub lengths : HasLengths table (contents_in table.slots batches (disk.seen before))
  pub opened : IsOpened (geometry_of table) batches (disk.seen before) (disk.seen after)
  pub synced : Only (disk.may_leave after) (disk.seen after)
  pub calls : Rises (opening_calls table batches) (disk.calls_made before) (disk.calls_made after)

-- the table that an opening found, or the reason for which it was refused
abbrev pub opened_table : {D : Type 0} → Result (VolumeState D) (Refusal × D) → Result SuperValue Refusal
opened_table (Ok volume) = Ok volume.table
opened_table (Err refused) = Err refused.0

-- the device after an opening
abbrev pub device_after : {D : Type 0} → Result (VolumeState D) (Refusal × D) → D
device_after (Ok volume) = volume.device
device_after (Err refused) = refused.1

-- The bytes of a device allow this refusal of an opening. `NotAVolume`: they are no volume. `Damaged`: they are a
-- damaged volume. `Device` and `OutOfMemory` are possible with any bytes.
abbrev pub RefusesOpening : List ℕ → Refusal → Type 0
RefusesOpening bytes NotAVolume = IsNotAVolume bytes
RefusesOpening bytes Damaged = IsDamaged bytes
RefusesOpening bytes Device = Unit {0}
RefusesOpening bytes OutOfMemory = Unit {0}
RefusesOpening bytes _ = ⊥

-- The count of device calls rose at most by those that find the open batches and the lengths of a device with these
-- bytes. One call reads block 0. If block 0 contains a table, one call syncs. Two calls for each journal read the gate
-- and the descriptor. One call reads the lengths if the layout has a block for them.
abbrev pub FindsWithin : List ℕ → ℕ → ℕ → Type 0
FindsWithin bytes old new = RisesWithin 1 old new
    ⊎ ((table : SuperValue) × IsSuper table (block_at bytes 0)
    × RisesWithin (2 + 2 * journals_of table.layout + lengths_blocks table.layout) old new)

-- An opening was refused while it looked for open batches and lengths. Nothing was written.
pub record HasNotBegun {D : Type 0} (disk : Ghosts D) (before after : D) : Type 0 where
  pub unwritten : IsUnwritten disk before after
  pub calls : FindsWithin (disk.seen before) (disk.calls_made before) (disk.calls_made after)

-- A device call failed while the open batches of a volume were carried out. The volume's files had lengths.
pub record HasFailed {D : Type 0} (disk : Ghosts D) (before : D) (refusal : Refusal) (after : D) : Type 0 where
  pub device : refusal ≡ Device
  pub table : SuperValue
  pub batches : List Batch
  pub held : IsVolume table batches (disk.seen before)
  pub lengths : HasLengths table (contents_in table.slots batches (disk.seen before))
  pub calls : RisesWithin (opening_calls table batches) (disk.calls_made before) (disk.calls_made after)

-- An opening was refused for this reason: before it wrote anything, or because a device call failed afterwards.
pub record HasRefused {D : Type 0} (disk : Ghosts D) (before : D) (refusal : Refusal) (after : D) : Type 0 where
  pub reason : RefusesOpening (disk.seen before) refusal
  pub done : HasNotBegun disk before after ⊎ HasFailed disk before refusal after

-- An opening of the device `before` had this result, and left the device `after`. The claims about bytes hold if the
-- device is honest.
pub record Opens {D : Type 0} (disk : Ghosts D) (before : D) (result : Result SuperValue Refusal) (after : D)
    : Type 0 where
  pub kept : IsAccounted disk before result after
  pub ended : disk.is_honest before
      → MatchResult result (λ table. HasOpened disk before table after)
      (λ refusal. HasRefused disk before refusal after)
  -- what a crash at any moment since the opening began may leave
  pub within : disk.is_honest before → LeavesOnly disk.moment disk.left_since before after (LeftByOpening disk before)
