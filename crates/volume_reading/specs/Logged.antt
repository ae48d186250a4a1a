-- The result of reading a volume with a log.
use Rattle.std.specs.Prelude.{ℕ, ◌+◌, List, take}
use Rattle.page_entry.specs.declared.refusal.Refusal.{Refusal}
use Rattle.page_entry.specs.declared.refusal.Refusal.TheVariants.{Device, OutOfMemory, NotAVolume, Damaged}
use Rattle.volume_codec.specs.Files.{File}
use Rattle.volume_codec.specs.Layout.{block_at}
use Rattle.volume_codec.specs.Lengths.{AreLengths, IsLengths}
use Rattle.volume_codec.specs.Recovery.{files_from}
use Rattle.volume_codec.specs.Super.{total_pages}
use Rattle.log_codec.specs.Log.{first_log_home, first_log_file_home}
use Rattle.log_codec.specs.Chain.{contents_of_log}
use Rattle.log_volume.specs.Super.{LogSuperValue, IsLogSuper, table_of, log_of}
use Rattle.log_volume.specs.Files.{RecoversToLog}
use Rattle.log_recovery.specs.Reading.{IsFoundLog, HoldsFound, chain_of}
use Rattle.log_opening.specs.Volume.{RefusesVolume}
use Rattle.volume_reading.specs.declared.logged.LoggedVolume.{LoggedVolume}

-- The recovered contents of home blocks.
abbrev pub logged_contents : {Z : Type 0} → LoggedVolume Z → List ℕ → ℕ → List ℕ
logged_contents found bytes =
    contents_of_log (log_of found.table) found.log.start.position (chain_of found.log.commits.items) bytes

-- The home block of a page of a file.
abbrev pub logged_home : LogSuperValue → ℕ → ℕ → ℕ
logged_home v file page = first_log_file_home v.ring + total_pages (take file v.files) + page

-- The recovered files.
abbrev pub logged_files : {Z : Type 0} → LoggedVolume Z → List ℕ → List File
logged_files found bytes =
    files_from (logged_contents found bytes) (first_log_file_home found.table.ring) found.table.files
    found.lengths.items

-- These bytes are a volume with this super block, log and lengths. They recover to its files.
pub record IsLoggedVolume {Z : Type 0} (bytes : List ℕ) (found : LoggedVolume Z) : Type 0 where
  pub super_block : IsLogSuper found.table (block_at bytes 0)
  pub log : HoldsFound (log_of found.table) found.log bytes
  pub lengths_are : IsLengths (table_of found.table) found.lengths.items
      (logged_contents found bytes (first_log_home found.table.ring))
  pub recovers : RecoversToLog bytes (logged_files found bytes)

-- The facts that hold of each volume with a log that was read.
pub record IsSoundLogged {Z : Type 0} (found : LoggedVolume Z) : Type 0 where
  pub log : IsFoundLog (log_of found.table) found.log
  pub lengths : AreLengths (table_of found.table) found.lengths.items

-- Why reading a device with these bytes fails: for the reasons of an opening, except that an epoch need not be left.
-- Device and OutOfMemory may occur for any bytes.
abbrev pub RefusesLogReading : List ℕ → Refusal → Type 0
RefusesLogReading bytes NotAVolume = RefusesVolume bytes NotAVolume
RefusesLogReading bytes Damaged = RefusesVolume bytes Damaged
RefusesLogReading bytes Device = Unit {0}
RefusesLogReading bytes OutOfMemory = Unit {0}
RefusesLogReading bytes _ = ⊥
