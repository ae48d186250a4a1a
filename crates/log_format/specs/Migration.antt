-- What the migration of a volume makes on another device: a volume with a log and the same files.
use Rattle.std.specs.Prelude.{◌≡◌, ◌⊎◌, ℕ, ◌+◌, ◌*◌, ◌<◌, ◌≤◌, List, [], length, take, slice_index}
use Rattle.device.specs.Device.{Only}
use Rattle.device.specs.declared.device.Device.{Ghosts}
use Rattle.volume_codec.specs.Layout.{block_at}
use Rattle.volume_codec.specs.Lengths.{lengths_text}
use Rattle.volume_codec.specs.Recovery.{files_from}
use Rattle.volume_codec.specs.Super.{total_pages}
use Rattle.recovery.specs.Migration.{asked_of}
use Rattle.recovery.specs.Volume.{VolumeState, files_of}
use Rattle.log_codec.specs.declared.sealing.Sealing.{Sealing}
use Rattle.log_codec.specs.Log.{first_log_home, first_log_file_home}
use Rattle.log_codec.specs.Chain.{HasLog}
use Rattle.log_volume.specs.Super.{LogSuperValue, IsLogSuper, log_of}
use Rattle.log_volume.specs.Files.{RecoversToLog}
use Rattle.log_format.specs.Asked.{HasLogShape}
use Rattle.log_format.specs.Formatting.{IsPartlyMade}
use Rattle.log_format.specs.Fresh.{IsFreshLog, first_log_start}

-- The first home block of file `i` of a volume with a log.
abbrev pub log_home_of : LogSuperValue → ℕ → ℕ
log_home_of table i = first_log_file_home table.ring + total_pages (take i table.files)

-- In each file's home blocks, the bytes past the file's length are 0.
abbrev pub AreZeroPastLengths : LogSuperValue → List ℕ → List ℕ → Type 0
AreZeroPastLengths table lengths bytes = (file i : ℕ) → file < length table.files
    → 4096 * log_home_of table file + slice_index lengths file ≤ i → i < 4096 * log_home_of table (file + 1)
    → slice_index bytes i ≡ 0

-- The migrated volume without its block 0: a log without commits, and the lengths in their block. If the device of the
-- other volume is honest, its files are the same, with zeros past their lengths.
pub record IsFilledLog {D : Type 0} (disk : Ghosts D) (volume : VolumeState D) (table : LogSuperValue) (bytes : List ℕ)
    : Type 0 where
  pub log : IsFreshLog table bytes
  pub lengths_block : block_at bytes (first_log_home table.ring) ≡ lengths_text volume.lengths
  pub files : disk.is_honest volume.device
      → files_from (block_at bytes) (first_log_file_home table.ring) table.files volume.lengths
      ≡ files_of volume.table (disk.seen volume.device)
  pub tails : disk.is_honest volume.device → AreZeroPastLengths table volume.lengths bytes

-- Byte `i` is in block 0, in block 2, in the lengths block or in a home block of a file.
abbrev pub IsWrittenByMigration : LogSuperValue → ℕ → Type 0
IsWrittenByMigration table i = (i < 4096) ⊎ (((8192 ≤ i) × (i < 12288))
    ⊎ ((4096 * first_log_home table.ring ≤ i) × (i < 4096 * (log_of table).blocks)))

-- What a crash leaves during a migration: what it might have left before, or a partly made volume.
abbrev pub LeftByLogMigration : {D E : Type 0} → Ghosts D → Ghosts E → Sealing → ℕ → VolumeState D → E → List ℕ → Type 0
LeftByLogMigration disk other sealing ring volume before c = other.may_leave before c
    ⊎ ((table : LogSuperValue) × HasLogShape sealing (asked_of volume) ring (length (other.seen before)) table
    × IsPartlyMade (log_of table).blocks (IsFilledLog disk volume table) (other.may_leave before) c)

-- A volume was copied to an honest device. Block 0 of that device contains the requested table, and its log has no
-- commit. It has the same files and recovers to them. All of it is synced.
pub record HasMigratedToLog {D E : Type 0} (disk : Ghosts D) (other : Ghosts E) (sealing : Sealing) (ring : ℕ)
    (volume : VolumeState D) (before after : E) : Type 0 where
  pub table : LogSuperValue
  pub shape : HasLogShape sealing (asked_of volume) ring (length (other.seen before)) table
  pub super_block : IsLogSuper table (block_at (other.seen after) 0)
  pub filled : IsFilledLog disk volume table (other.seen after)
  pub log : HasLog (log_of table) first_log_start [] (other.seen after)
  pub recovers : RecoversToLog (other.seen after) (files_of volume.table (disk.seen volume.device))
  pub synced : Only (other.may_leave after) (other.seen after)
