-- A volume in any layout: with journals, in layouts 1 to 4, or with a log, in layouts 5 and 6.
use Rattle.std.specs.Prelude.{ℕ, ◌≡◌, ◌⊎◌, List, length, slice_index, Result, Ok, Err}
use Rattle.page_entry.specs.declared.refusal.Refusal.{Refusal}
use Rattle.page_entry.specs.declared.refusal.Refusal.TheVariants.{Device, OutOfMemory, NotAVolume, Damaged}
use Rattle.page_entry.specs.declared.refusal.Refusal.TheVariants.{BadShape, Busy}
use Rattle.volume_codec.specs.Files.{File}
use Rattle.volume_codec.specs.Super.{block_count}
use Rattle.volume_codec.specs.Recovery.{RecoversTo, IsNotAVolume, IsDamaged}
use Rattle.recovery.specs.Counts.{Rises}
use Rattle.volume_reading.specs.Recovered.{IsRecovered, recovered_files}
use Rattle.log_volume.specs.Super.{log_of}
use Rattle.log_volume.specs.Files.{RecoversToLog}
use Rattle.volume_reading.specs.Logged.{IsLoggedVolume, IsSoundLogged, RefusesLogReading, logged_files}
use Rattle.volume_reading.specs.declared.any_volume.AnyVolume.{AnyVolume}
use Rattle.volume_reading.specs.declared.any_volume.AnyVolume.TheVariants.{Journals, Log}

-- A device with these bytes recovers to these files.
abbrev pub RecoversToAny : List ℕ → List File → Type 0
RecoversToAny bytes files = RecoversTo bytes files ⊎ RecoversToLog bytes files

-- The bytes of a device allow this refusal to read a volume. `NotAVolume`: they are a volume of neither kind.
-- `Damaged`: they are a damaged volume of one kind. A device fault and a lack of memory are possible with any bytes.
abbrev pub RefusesAny : List ℕ → Refusal → Type 0
RefusesAny bytes NotAVolume = IsNotAVolume bytes × RefusesLogReading bytes NotAVolume
RefusesAny bytes Damaged = IsDamaged bytes ⊎ RefusesLogReading bytes Damaged
RefusesAny bytes Device = Unit {0}
RefusesAny bytes OutOfMemory = Unit {0}
RefusesAny bytes _ = ⊥

-- If the refusal is `Device`, one device call failed. With any other refusal of an opening, none failed.
abbrev pub RisesFor : ℕ → ℕ → Refusal → Type 0
RisesFor old new Device = Rises 1 old new
RisesFor old new OutOfMemory = new ≡ old
RisesFor old new NotAVolume = new ≡ old
RisesFor old new Damaged = new ≡ old
RisesFor old new BadShape = new ≡ old
RisesFor old new Busy = new ≡ old
RisesFor old new _ = ⊥

-- The number of failed device calls rose from `old` to `new` as the result requires.
abbrev pub HasCounted : {X : Type 0} → ℕ → ℕ → Result X Refusal → Type 0
HasCounted old new (Ok found) = new ≡ old
HasCounted old new (Err refusal) = RisesFor old new refusal

abbrev pub any_count : {Z : Type 0} → AnyVolume Z → ℕ
any_count (Journals volume) = length volume.table.files
any_count (Log volume) = length volume.table.files

-- the length of a file
abbrev pub any_size : {Z : Type 0} → AnyVolume Z → ℕ → ℕ
any_size (Journals volume) file = slice_index volume.lengths file
any_size (Log volume) file = slice_index volume.lengths.items file

-- the number of blocks
abbrev pub any_blocks : {Z : Type 0} → AnyVolume Z → ℕ
any_blocks (Journals volume) = block_count volume.table
any_blocks (Log volume) = (log_of volume.table).blocks

-- Holds of each volume that a reading finds.
abbrev pub IsSoundAny : {Z : Type 0} → AnyVolume Z → Type 0
IsSoundAny (Journals volume) = Unit {0}
IsSoundAny (Log volume) = IsSoundLogged volume

-- These bytes contain this volume.
abbrev pub IsAny : {Z : Type 0} → AnyVolume Z → List ℕ → Type 0
IsAny (Journals volume) bytes = IsRecovered volume bytes
IsAny (Log volume) bytes = IsLoggedVolume bytes volume

-- the recovered files
abbrev pub any_files : {Z : Type 0} → AnyVolume Z → List ℕ → List File
any_files (Journals volume) bytes = recovered_files volume bytes
any_files (Log volume) bytes = logged_files volume bytes
