-- A disk whose writes and syncs are recorded for its host to make. It knows some of its blocks of 4,096 bytes.
use Rattle.std.specs.Prelude.{◌≡◌, ⊤, ℕ, zero, suc, ◌+◌, ◌-◌, ◌*◌, ◌/◌, ◌^◌, min, Bool, true, false}
use Rattle.std.specs.Prelude.{if◌then◌else◌, Option, Some, None, List, [], ◌∷◌, ◌++◌, length, take}
use Rattle.std.specs.Prelude.{drop, replicate, get_or, set, slice_get, slice_range, nat_lt, ◌&&◌, ◌||◌}
use Rattle.std.specs.Int.{div_ceil}
use Rattle.device.specs.Count.{raised}
use Rattle.device.specs.Memory.{DiskChange, Recorded, seen_of, may_leave_of, moment_of}
use Rattle.device.specs.Memory.DiskChange.{write, sync}
use Rattle.device.specs.Work.{Work, WriteAt, Sync, Nothing, TornByWork, TornFromWork}

-- A disk with its `first` content, and its writes and syncs since then, the newest first. The newest `waiting` of these
-- aren't carried out yet. `known` marks the known blocks. `supplied` pairs each supplied block with the bytes that the
-- disk had there then. `wanted` is the block that the last call lacked. `calls` and `faults` are counts.
pub record Deferred : Type 0 where
  pub first : List ℕ
  pub changes : List DiskChange
  pub waiting : ℕ
  pub known : List Bool
  pub supplied : List (List ℕ × List ℕ)
  pub wanted : Option ℕ
  pub calls : ℕ
  pub faults : ℕ

-- A disk with this content and this many blocks. No block is known, and no call was made.
abbrev pub deferred : List ℕ → ℕ → Deferred
deferred content blocks = record {
  first = content;
  changes = [];
  waiting = 0;
  known = replicate blocks false;
  supplied = [];
  wanted = None;
  calls = 0;
  faults = 0;
}

-- the disk as a disk in memory that made these writes and syncs
abbrev pub as_memory : Deferred → Recorded
as_memory disk = record {
  first = disk.first;
  changes = disk.changes;
  start = 0;
  calls = disk.calls;
  faults = disk.faults;
}

-- the same before the oldest waiting call
abbrev pub carried_out : Deferred → Recorded
carried_out disk = record {
  first = disk.first;
  changes = drop disk.waiting disk.changes;
  start = 0;
  calls = disk.calls;
  faults = disk.faults;
}

-- Each of these pairs consists of two equal lists.
abbrev pub AreAlike : List (List ℕ × List ℕ) → Type 0
AreAlike [] = ⊤
AreAlike (pair ∷ pairs) = (pair.0 ≡ pair.1) × AreAlike pairs

-- The host supplied each block as the disk had it.
abbrev pub IsSuppliedWell : Deferred → Type 0
IsSuppliedWell disk = AreAlike disk.supplied

abbrev pub block_of : List ℕ → ℕ → List ℕ
block_of bytes block = slice_range bytes (4096 * block) (4096 * block + 4096)

-- the first unknown block among n blocks from `block` on
abbrev pub first_unknown : List Bool → ℕ → ℕ → Option ℕ
first_unknown known block zero = None
first_unknown known block (suc n) = if get_or known block false then first_unknown known (block + 1) n else Some block

-- the known blocks, with those from `from` to `to - 1` added
abbrev pub with_known : List Bool → ℕ → ℕ → List Bool
with_known known from to = take from known ++ replicate (to - from) true ++ drop to known

-- the first block of a range, and the block after the last one of n bytes from an offset on
abbrev pub first_block : ℕ → ℕ
first_block at = at / 4096

abbrev pub end_block : ℕ → ℕ → ℕ
end_block at n = div_ceil (at + n) 4096

-- the first unknown block among those that a read reaches
abbrev pub lacked_by_read : List Bool → ℕ → ℕ → Option ℕ
lacked_by_read known at n = first_unknown known (first_block at) (end_block at n - first_block at)

-- the first option if it has a block, and otherwise the second
abbrev pub or_else : Option ℕ → Option ℕ → Option ℕ
or_else (Some block) other = Some block
or_else None other = other

-- The first unknown block among those that a write covers only in part. These can be the block in which it begins, and
-- the block in which it ends.
abbrev pub lacked_by_write : List Bool → ℕ → ℕ → Option ℕ
lacked_by_write known at n = or_else (first_unknown known (at / 4096) (div_ceil at 4096 - at / 4096))
    (first_unknown known ((at + n) / 4096) (div_ceil (at + n) 4096 - (at + n) / 4096))

-- the disk after a read that lacked this block, or none, and that succeeded or failed
abbrev pub after_read : Deferred → Option ℕ → Bool → Deferred
after_read disk lacked done = record disk {
  wanted = lacked;
  calls = raised disk.calls;
  faults = if done then disk.faults else raised disk.faults;
}

-- the disk after a write: the blocks that it reaches are known
abbrev pub after_write : Deferred → ℕ → List ℕ → Deferred
after_write disk at bytes = record disk {
  changes = write at bytes ∷ disk.changes;
  waiting = disk.waiting + 1;
  known = with_known disk.known (first_block at) (end_block at (length bytes));
  wanted = None;
  calls = raised disk.calls;
}

abbrev pub after_sync : Deferred → Deferred
after_sync disk = record disk {
  changes = sync ∷ disk.changes;
  waiting = disk.waiting + 1;
  wanted = None;
  calls = raised disk.calls;
}

-- the disk after a write or a sync that failed, because it lacked a block or memory
abbrev pub after_refusal : Deferred → Option ℕ → Deferred
after_refusal disk lacked = record disk {
  wanted = lacked;
  calls = raised disk.calls;
  faults = raised disk.faults;
}

-- The disk after a block was supplied. A block that is known already stays as it is.
abbrev pub after_supply : Deferred → ℕ → List ℕ → Deferred
after_supply disk block bytes = if get_or disk.known block false then disk else record disk {
  known = with_known disk.known block (block + 1);
  supplied = (bytes, block_of (seen_of (as_memory disk)) block) ∷ disk.supplied;
}

-- whether a change writes to a block
abbrev pub reaches : DiskChange → ℕ → Bool
reaches (write at bytes) block = nat_lt at (4096 * block + 4096) && nat_lt (4096 * block) (at + length bytes)
reaches sync block = false

-- whether one of these changes writes to a block
abbrev pub one_reaches : List DiskChange → ℕ → Bool
one_reaches [] block = false
one_reaches (change ∷ older) block = reaches change block || one_reaches older block

-- the disk after a block was forgotten: it isn't known any more
abbrev pub after_forget : Deferred → ℕ → Deferred
after_forget disk block = record disk { known = set disk.known block false }

abbrev pub with_waiting : Deferred → ℕ → Deferred
with_waiting disk waiting = record disk { waiting = waiting }

-- the oldest of the n newest changes
abbrev pub made_before : ℕ → List DiskChange → Option DiskChange
made_before zero changes = None
made_before (suc newer) changes = slice_get changes newer

-- the oldest call that waits
abbrev pub oldest_call : Deferred → Option DiskChange
oldest_call disk = made_before disk.waiting disk.changes

-- the waiting call after `others` older waiting calls
abbrev pub waits_behind : ℕ → Deferred → Option DiskChange
waits_behind others disk = made_before (disk.waiting - others) disk.changes

-- the work that a call asks of a device
abbrev pub done_by : Option DiskChange → Work
done_by None = Nothing
done_by (Some (write at bytes)) = WriteAt at bytes
done_by (Some sync) = Sync

-- The number of recorded writes and syncs. It stays at 2^64-1 once it is that large.
abbrev pub recorded_calls : Deferred → ℕ
recorded_calls disk = min (length disk.changes) (2 ^ 64 - 1)

-- The moment at which the oldest waiting call was recorded: the number of calls that were carried out.
abbrev pub carried_moment : Deferred → ℕ
carried_moment disk = moment_of (as_memory disk) - disk.waiting

-- An honest device is in the state of this disk before its oldest waiting call. If that call is a write, it may have
-- been tried on the device and failed. Then its range may contain any bytes.
pub record IsBehind {D : Type 0} (is_honest : D → Type 0) (seen : D → List ℕ) (may_leave : D → List ℕ → Type 0)
    (device : D) (disk : Deferred) : Type 0 where
  pub honest : is_honest device
  pub seen_torn : TornByWork (done_by (oldest_call disk)) (seen_of (carried_out disk)) (seen device)
  pub left : (c : List ℕ) → may_leave device c
      → TornFromWork (done_by (oldest_call disk)) (may_leave_of (carried_out disk)) c
