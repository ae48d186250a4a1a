-- What a device's volume recovers to, found by reading alone.
use Rattle.std.specs.Prelude.{ℕ, List}
use Rattle.volume_codec.specs.Files.{File}
use Rattle.volume_codec.specs.Super.{SuperValue, Fits, geometry_of}
use Rattle.volume_codec.specs.Lengths.{AreLengths}
use Rattle.volume_codec.specs.Recovery.{Batch, IsVolume, contents_in, files_in}
use Rattle.recovery.specs.Reading.{AreBatches, AreFound}

-- The table of the files, the batches of the open journals (the newest first), and the length of each file.
pub record RecoveredState : Type 0 where
  pub table : SuperValue
  pub batches : List Batch
  pub lengths : List ℕ

-- The table, the batches and the lengths obey the rules of a volume.
pub record IsSound (volume : RecoveredState) : Type 0 where
  pub fits : Fits volume.table
  pub batches : AreBatches (geometry_of volume.table) volume.batches
  pub lengths : AreLengths volume.table volume.lengths

-- `bytes` contain a volume with this table and these batches, and it recovers to these lengths.
pub record IsRecovered (volume : RecoveredState) (bytes : List ℕ) : Type 0 where
  pub holds : IsVolume volume.table volume.batches bytes
  pub found : AreFound volume.table volume.batches bytes volume.lengths

-- The files that this volume recovers to, if its device has these bytes.
abbrev pub recovered_files : RecoveredState → List ℕ → List File
recovered_files volume bytes = files_in volume.table (contents_in volume.table.slots volume.batches bytes)
