-- Volumes that are only read.
use Rattle.std.specs.Prelude.{ℕ, ◌≡◌, ◌↔◌, List, length, map}
use Rattle.device.specs.declared.device.Device.{Ghosts}
use Rattle.recovery.specs.Volume.{VolumeState, files_of}

-- The volume was only read. Its table and lengths are the same. A read of an honest device returns the same bytes.
pub record IsVolumeOnlyRead {D : Type 0} (disk : Ghosts D) (old new : VolumeState D) : Type 0 where
  pub table : new.table ≡ old.table
  pub lengths : new.lengths ≡ old.lengths
  pub honest : disk.is_honest new.device ↔ disk.is_honest old.device
  pub same : disk.is_honest old.device → disk.seen new.device ≡ disk.seen old.device

-- The lengths of the volume are those of its files on a device with these bytes.
abbrev pub HasLengthsOf : {D : Type 0} → VolumeState D → List ℕ → Type 0
HasLengthsOf volume bytes = map (λ f. length f.bytes) (files_of volume.table bytes) ≡ volume.lengths
