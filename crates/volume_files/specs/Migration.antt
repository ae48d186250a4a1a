-- Migrations of a volume to a new one, with journals or with a log.
use Rattle.std.specs.Prelude.{◌≡◌, ℕ}
use Rattle.device.specs.declared.device.Device.{Ghosts}
use Rattle.page_entry.specs.declared.refusal.Refusal.{Refusal}
use Rattle.volume_codec.specs.Super.{SuperValue, IsAsked, block_count}
use Rattle.recovery.specs.Format.{RefusesFormat}
use Rattle.recovery.specs.Migration.{asked_of, HasMigrated}
use Rattle.recovery.specs.Volume.{VolumeState}
use Rattle.new_volume.specs.Formatting.{IsZero}
use Rattle.log_volume.specs.Super.{LogSuperValue, log_of}
use Rattle.log_format.specs.Asked.{IsLogAsked, RefusesLogFormat}
use Rattle.log_format.specs.Migration.{HasMigratedToLog}
use Rattle.volume_files.specs.Layouts.{MayMigrate}
use Rattle.volume_files.specs.declared.migrating.NewVolume.{NewVolume}
use Rattle.volume_files.specs.declared.migrating.NewVolume.TheVariants.{Journals, Log}

-- The new volume has this number of blocks, and the old volume may be migrated to its layout.
abbrev pub HasNewBlocks : {D : Type 0} → NewVolume → VolumeState D → ℕ → Type 0
HasNewBlocks (Journals layout slots) volume blocks = MayMigrate volume.table.layout layout
    × (v : SuperValue) × IsAsked layout (asked_of volume) slots v × (blocks ≡ block_count v)
HasNewBlocks (Log sealing ring) volume blocks =
    (v : LogSuperValue) × IsLogAsked sealing (asked_of volume) ring v × (blocks ≡ (log_of v).blocks)

-- There is no such new volume.
abbrev pub HasNoBlocks : {D : Type 0} → NewVolume → VolumeState D → Type 0
HasNoBlocks (Journals layout slots) volume =
    MayMigrate volume.table.layout layout → (v : SuperValue) → IsAsked layout (asked_of volume) slots v → ⊥
HasNoBlocks (Log sealing ring) volume = (v : LogSuperValue) → IsLogAsked sealing (asked_of volume) ring v → ⊥

-- The old volume was copied to an honest device. If the new volume has a log, this holds only if all bytes of the
-- device were 0 before.
abbrev pub HasBecome : {D E : Type 0} → Ghosts D → Ghosts E → NewVolume → VolumeState D → E → E → Type 0
HasBecome disk other (Journals layout slots) volume before after =
    HasMigrated disk other layout slots volume before after
HasBecome disk other (Log sealing ring) volume before after =
    IsZero (other.seen before) → HasMigratedToLog disk other sealing ring volume before after

-- The new volume is refused for this reason.
abbrev pub RefusesToBecome : {D : Type 0} → NewVolume → VolumeState D → ℕ → Refusal → Type 0
RefusesToBecome (Journals layout slots) volume bytes refusal =
    RefusesFormat layout (asked_of volume) slots bytes refusal
RefusesToBecome (Log sealing ring) volume bytes refusal =
    RefusesLogFormat sealing (asked_of volume) ring bytes refusal
