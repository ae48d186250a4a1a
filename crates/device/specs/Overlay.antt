-- A disk over another disk that doesn't pass on its writes.
use Rattle.std.specs.Prelude.{ℕ, Bool, true, false, if◌then◌else◌, List, [], ◌∷◌}
use Rattle.device.specs.Count.{raised}
use Rattle.device.specs.Memory.{DiskChange, Recorded}

-- The disk below, the disk's own writes and syncs with the newest first, whether memory was refused for a change, and
-- the disk's own counts.
pub record Overlaid (D : Type 0) : Type 0 where
  pub inner : D
  pub changes : List DiskChange
  pub refused : Bool
  pub calls : ℕ
  pub faults : ℕ

-- a disk of which no call has been made
abbrev pub overlaid : {D : Type 0} → D → Overlaid D
overlaid inner = record { inner = inner; changes = []; refused = false; calls = 0; faults = 0 }

-- the same as a disk in memory whose first content is what the disk below reads
abbrev pub as_recorded : {D : Type 0} → (D → List ℕ) → Overlaid D → Recorded
as_recorded seen disk = record {
  first = seen disk.inner;
  changes = disk.changes;
  start = 0;
  calls = disk.calls;
  faults = disk.faults;
}

-- the disk after a read that left the disk below in this state, and that succeeded or failed
abbrev pub after_read : {D : Type 0} → Overlaid D → D → Bool → Overlaid D
after_read disk inner done = record disk {
  inner = inner;
  calls = raised disk.calls;
  faults = if done then disk.faults else raised disk.faults;
}

-- the disk after a write or a sync
abbrev pub after_change : {D : Type 0} → Overlaid D → DiskChange → Overlaid D
after_change disk change = record disk { changes = change ∷ disk.changes; calls = raised disk.calls }

-- the disk after a write or a sync that failed for lack of memory
abbrev pub after_refusal : {D : Type 0} → Overlaid D → Overlaid D
after_refusal disk = record disk { refused = true; calls = raised disk.calls; faults = raised disk.faults }
