-- The device calls that make a volume with a log, on a device with all bytes 0, and their effects.
use Rattle.std.specs.Prelude.{◌≡◌, ◌⊎◌, ℕ, ◌*◌, ◌<◌, ◌≤◌, ◌+◌, true, false, List, [], ◌∷◌, ◌++◌, length}
use Rattle.std.specs.Prelude.{Result, Ok, Err}
use Rattle.device.specs.Device.{Torn, Only}
use Rattle.device.specs.Work.{Work, WriteAt}
use Rattle.device.specs.declared.device.Device.{Ghosts}
use Rattle.page_entry.specs.declared.refusal.Refusal.{Refusal}
use Rattle.page_entry.specs.declared.refusal.Refusal.TheVariants.{Device}
use Rattle.volume_codec.specs.Files.{AskedFile, lengths_asked}
use Rattle.volume_codec.specs.Layout.{block_at}
use Rattle.volume_codec.specs.Lengths.{lengths_text}
use Rattle.recovery.specs.Format.{zero_files}
use Rattle.new_volume.specs.Formatting.{DidAll, super_works}
use Rattle.log_codec.specs.declared.sealing.Sealing.{Sealing}
use Rattle.log_codec.specs.Log.{first_log_home}
use Rattle.log_codec.specs.Start.{start_text}
use Rattle.log_codec.specs.Chain.{HasLog}
use Rattle.log_volume.specs.Super.{LogSuperValue, log_super_text, log_of}
use Rattle.log_volume.specs.Files.{RecoversToLog}
use Rattle.log_format.specs.Asked.{HasLogShape, RefusesLogFormat}
use Rattle.log_format.specs.Fresh.{IsFreshVolume, IsFreshBehind, first_log_start}

-- The writes of everything except block 0: the start of the log, and the lengths.
abbrev pub laying_works : LogSuperValue → List ℕ → List Work
laying_works table lengths =
    WriteAt 8192 (start_text first_log_start) ∷ WriteAt (4096 * first_log_home table.ring) (lengths_text lengths) ∷ []

-- The last calls: a sync, then a write and a sync of block 0.
abbrev pub finishing_works : LogSuperValue → List Work
finishing_works table = super_works (log_super_text table)

-- All calls that make a new volume: the start and the lengths are written and synced, then block 0.
abbrev pub log_works : LogSuperValue → List ℕ → List Work
log_works table lengths = laying_works table lengths ++ finishing_works table

-- Byte `i` is in block 0, in block 2 or in the lengths block.
abbrev pub IsWrittenInLog : LogSuperValue → ℕ → Type 0
IsWrittenInLog table i = (i < 4096) ⊎ (((8192 ≤ i) × (i < 12288))
    ⊎ ((4096 * first_log_home table.ring ≤ i) × (i < 4096 * first_log_home table.ring + 4096)))

-- The device calls that were made, by the result. On success, they are all calls that make a new volume. If a device
-- call failed, they are the calls up to it. Any other refusal comes before the first call.
abbrev pub HasAskedLog : {D X : Type 0} → Ghosts D → Sealing → List AskedFile → ℕ → D → Result X Refusal → D → Type 0
HasAskedLog disk sealing files ring old (Ok done) new =
    (table : LogSuperValue) × HasLogShape sealing files ring (length (disk.seen old)) table
    × DidAll disk old (log_works table (lengths_asked files)) true new
HasAskedLog disk sealing files ring old (Err Device) new =
    (table : LogSuperValue) × HasLogShape sealing files ring (length (disk.seen old)) table
    × DidAll disk old (log_works table (lengths_asked files)) false new
HasAskedLog disk sealing files ring old (Err refusal) new =
    RefusesLogFormat sealing files ring (length (disk.seen old)) refusal × (new ≡ old)

-- An honest device was formatted. It is a fresh volume with the requested table and lengths, and its log has no commit.
-- It recovers to these files with all bytes zero, and all of it is synced.
pub record HasFormattedLog {D : Type 0} (disk : Ghosts D) (sealing : Sealing) (files : List AskedFile) (ring : ℕ)
    (old new : D) : Type 0 where
  pub table : LogSuperValue
  pub shape : HasLogShape sealing files ring (length (disk.seen old)) table
  pub fresh : IsFreshVolume table (lengths_asked files) (disk.seen new)
  pub log : HasLog (log_of table) first_log_start [] (disk.seen new)
  pub recovers : RecoversToLog (disk.seen new) (zero_files files)
  pub synced : Only (disk.may_leave new) (disk.seen new)

-- What a crash leaves while a volume of `blocks` blocks is made on a device, for which a crash might have left any of
-- `lists`. It is one of these lists, changed only in the volume's blocks. Either block 0 is unchanged, or everything
-- else is made.
pub record IsPartlyMade (blocks : ℕ) (made : List ℕ → Type 0) (lists : List ℕ → Type 0) (c : List ℕ) : Type 0 where
  pub before : List ℕ
  pub left : lists before
  pub within : Torn 0 (4096 * blocks) before c
  pub first : (block_at c 0 ≡ block_at before 0) ⊎ made c

-- What a crash leaves during formatting: what it might have left before, or a partly made volume.
abbrev pub LeftByLogFormat : {D : Type 0} → Ghosts D → Sealing → List AskedFile → ℕ → D → List ℕ → Type 0
LeftByLogFormat disk sealing files ring old c = disk.may_leave old c
    ⊎ ((table : LogSuperValue) × HasLogShape sealing files ring (length (disk.seen old)) table
    × IsPartlyMade (log_of table).blocks (IsFreshBehind table (lengths_asked files)) (disk.may_leave old) c)
