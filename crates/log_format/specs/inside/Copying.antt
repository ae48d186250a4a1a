-- The effect of the calls that lay out a volume with a log.
use Rattle.std.specs.Prelude.{◌≡◌, ℕ, Bool, true, false, length, Result, Ok, Err}
use Rattle.device.specs.declared.device.Device.{Ghosts}
use Rattle.page_entry.specs.declared.refusal.Refusal.{Refusal}
use Rattle.page_entry.specs.declared.refusal.Refusal.TheVariants.{Device}
use Rattle.volume_codec.specs.Lengths.{lengths_text}
use Rattle.recovery.specs.Migration.{asked_of}
use Rattle.recovery.specs.Volume.{VolumeState}
use Rattle.new_volume.specs.Formatting.{DidAll}
use Rattle.log_codec.specs.declared.sealing.Sealing.{Sealing}
use Rattle.log_codec.specs.Start.{start_text}
use Rattle.log_volume.specs.Super.{LogSuperValue}
use Rattle.log_format.specs.Asked.{HasLogShape, RefusesLogFormat}
use Rattle.log_format.specs.Formatting.{laying_works}
use Rattle.log_format.specs.Fresh.{first_log_start}

-- A log's start and a volume's lengths were written on a device that is long enough for the new volume. If `done` is
-- false, one of these calls failed instead. Each text has the length of a block.
pub record HasLaidAs {D E : Type 0} (other : Ghosts E) (sealing : Sealing) (volume : VolumeState D) (ring : ℕ)
    (old : E) (table : LogSuperValue) (done : Bool) (new : E) : Type 0 where
  pub shape : HasLogShape sealing (asked_of volume) ring (length (other.seen old)) table
  pub did : DidAll other old (laying_works table volume.lengths) done new
  pub lengths_are : length (lengths_text volume.lengths) ≡ 4096
  pub start_is : length (start_text first_log_start) ≡ 4096

-- The device calls that were made, by the result. On success, both writes were made. If a device call failed, they are
-- the calls up to it. Any other refusal comes before the first call.
abbrev pub HasLaid : {D E : Type 0} → Ghosts E → Sealing → VolumeState D → ℕ → E → Result LogSuperValue Refusal → E
    → Type 0
HasLaid other sealing volume ring old (Ok table) new = HasLaidAs other sealing volume ring old table true new
HasLaid other sealing volume ring old (Err Device) new =
    (table : LogSuperValue) × HasLaidAs other sealing volume ring old table false new
HasLaid other sealing volume ring old (Err refusal) new =
    RefusesLogFormat sealing (asked_of volume) ring (length (other.seen old)) refusal × (new ≡ old)
