-- Volumes in any layout that were found by reading.
use Rattle.std.proofs.Common.{◌≢◌, ℕ, List, inl, inr, refl}
use Rattle.volume_reading.proofs.FilesFound.{recovers_to}
use Rattle.log_recovery.specs.Reading.{ReadsAlone}
use Rattle.recovery.specs.Reading.{IsOnlyRead}
use Rattle.recovery.specs.Counts.{HasCause}
use Rattle.device.specs.declared.device.Device.{Ghosts}
use Rattle.page_entry.specs.declared.refusal.Refusal.{Refusal}
use Rattle.page_entry.specs.declared.refusal.Refusal.TheVariants.{Device, OutOfMemory, NotAVolume, Damaged}
use Rattle.page_entry.specs.declared.refusal.Refusal.TheVariants.{BadShape, Busy}
use Rattle.volume_codec.specs.Recovery.{IsNotAVolume}
use Rattle.recovery.specs.Opening.{RefusesOpening}
use Rattle.log_opening.specs.Opening.{FailedBy}
use Rattle.volume_reading.specs.Logged.{RefusesLogReading}
use Rattle.volume_reading.specs.declared.any_volume.AnyVolume.{AnyVolume}
use Rattle.volume_reading.specs.declared.any_volume.AnyVolume.TheVariants.{Journals, Log}
use Rattle.volume_reading.specs.Volume.{RecoversToAny, RefusesAny, RisesFor, IsAny, any_files}

-- the bytes recover to its files
pub any_recovers : {Z : Type 0} (volume : AnyVolume Z) (bytes : List ℕ) → IsAny volume bytes
    → RecoversToAny bytes (any_files volume bytes)
any_recovers (Journals volume) bytes is = inl (recovers_to volume bytes is)
any_recovers (Log volume) bytes is = inr is.recovers

-- reading a log writes nothing
pub only_read : {D : Type 0} (disk : Ghosts D) (old new : D) → ReadsAlone disk old new → IsOnlyRead disk old new
only_read disk old new read =
    record { same = read.same; left = read.left; keeps = read.keeps; time = read.time; honest = read.honest }

-- a log's refusal is one of any volume that has no journals
pub by_log : (bytes : List ℕ) (e : Refusal) → IsNotAVolume bytes → RefusesLogReading bytes e → RefusesAny bytes e
by_log bytes NotAVolume other none = (other, none)
by_log bytes Damaged other none = inr none
by_log bytes Device other none = tt
by_log bytes OutOfMemory other none = tt
by_log bytes _ other none = absurd none

-- any other refusal of a volume with journals
pub by_journals : (bytes : List ℕ) (e : Refusal) → (e ≢ NotAVolume) → RefusesOpening bytes e → RefusesAny bytes e
by_journals bytes NotAVolume other none = absurd (other refl)
by_journals bytes Damaged other none = inl none
by_journals bytes Device other none = tt
by_journals bytes OutOfMemory other none = tt
by_journals bytes _ other none = absurd none

-- how the faults are counted
pub by_cause : (old new : ℕ) (e : Refusal) → HasCause old new e → RisesFor old new e
by_cause old new Device cause = cause
by_cause old new OutOfMemory cause = cause
by_cause old new NotAVolume cause = cause
by_cause old new Damaged cause = cause
by_cause old new BadShape cause = cause
by_cause old new _ cause = absurd cause

pub by_fault : (old new : ℕ) (e : Refusal) → FailedBy old new e → RisesFor old new e
by_fault old new Device cause = cause
by_fault old new OutOfMemory cause = cause
by_fault old new Damaged cause = cause
by_fault old new Busy cause = cause
by_fault old new NotAVolume cause = cause
by_fault old new _ cause = absurd cause
