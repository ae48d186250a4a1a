-- What the opening of a device does if its super block is that of a volume with a log.
use Rattle.std.specs.Prelude.{◌≡◌, ◌≢◌, ◌⊎◌, ℕ, ◌<◌, List, length, take}
use Rattle.device.specs.declared.device.Device.{Ghosts}
use Rattle.page_entry.specs.declared.refusal.Refusal.{Refusal}
use Rattle.page_entry.specs.declared.refusal.Refusal.TheVariants.{Device, OutOfMemory, NotAVolume, Damaged, Busy}
use Rattle.volume_codec.specs.Files.{File}
use Rattle.volume_codec.specs.Layout.{block_at}
use Rattle.volume_codec.specs.Lengths.{IsLengths}
use Rattle.log_codec.specs.declared.sealing.Sealing.{Sealing}
use Rattle.log_codec.specs.declared.start.LogStart.{LogStart}
use Rattle.log_codec.specs.Log.{first_log_home}
use Rattle.log_volume.specs.Super.{LogSuperValue, IsLogSuper, table_of, log_of, log_magic}
use Rattle.log_volume.specs.Files.{RecoversToLog}
use Rattle.log_opening.specs.Opening.{OpensLog, RefusesLogOpening, RecoversAlike}

-- A device with this super block was opened, and its files have these lengths.
pub record HasOpenedVolume {D : Type 0} (disk : Ghosts D) (old : D) (table : LogSuperValue) (lengths : List ℕ)
    (next : LogStart) (new : D) : Type 0 where
  pub super_block : IsLogSuper table (block_at (disk.seen old) 0)
  pub opened : OpensLog disk (log_of table) old next new
  pub lengths_are : IsLengths (table_of table) lengths (block_at (disk.seen new) (first_log_home table.ring))

-- Why an opening of a device with these bytes fails.
-- NotAVolume: the device is too short for a super block, or lacks the magic of each layout with a log.
-- Damaged: the bytes begin with such a magic, and recover to no files.
-- Busy: no epoch is left.
-- Device and OutOfMemory may occur for any bytes.
abbrev pub RefusesVolume : List ℕ → Refusal → Type 0
RefusesVolume bytes NotAVolume =
    (length bytes < 4096) ⊎ ((sealing : Sealing) → take 8 (block_at bytes 0) ≢ log_magic sealing)
RefusesVolume bytes Damaged = (sealing : Sealing) × (take 8 (block_at bytes 0) ≡ log_magic sealing)
    × ((files : List File) → RecoversToLog bytes files → ⊥)
RefusesVolume bytes Busy =
    (table : LogSuperValue) × IsLogSuper table (block_at bytes 0) × RefusesLogOpening (log_of table) bytes Busy
RefusesVolume bytes Device = Unit {0}
RefusesVolume bytes OutOfMemory = Unit {0}
RefusesVolume bytes _ = ⊥

-- What a crash leaves during an opening: what it might have left before, or bytes that recover to the same contents as
-- the bytes read before.
abbrev pub LeftByOpeningVolume : {D : Type 0} → Ghosts D → D → List ℕ → Type 0
LeftByOpeningVolume disk old c = disk.may_leave old c
    ⊎ ((table : LogSuperValue) × IsLogSuper table (block_at (disk.seen old) 0)
    × RecoversAlike (log_of table) (disk.seen old) c)
