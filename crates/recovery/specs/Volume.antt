-- An opened volume: its table, the lengths of its files, and its device.
use Rattle.std.specs.Prelude.{◌≡◌, ℕ, ◌*◌, ◌≤◌, List, [], map, length, slice_index_or}
use Rattle.device.specs.Device.{Only}
use Rattle.device.specs.declared.device.Device.{Ghosts}
use Rattle.volume_codec.specs.Files.{File}
use Rattle.volume_codec.specs.Layout.{lengths_blocks, block_at}
use Rattle.volume_codec.specs.Super.{SuperValue, Fits, block_count, capacities_in}
use Rattle.volume_codec.specs.Lengths.{AreLengths, HasLengths, lengths_in}
use Rattle.volume_codec.specs.Recovery.{IsVolume, files_in}

-- A volume, as its users see it: the table of its files, the length of each, and its device.
pub record VolumeState (D : Type 0) : Type 0 where
  pub table : SuperValue
  pub lengths : List ℕ
  pub device : D

-- The device contains a volume with closed gates and these lengths of its files. All of it is synced, so a crash leaves
-- the bytes that a read of an honest device returns.
pub record IsAtRest {D : Type 0} (disk : Ghosts D) (volume : VolumeState D) : Type 0 where
  pub holds : IsVolume volume.table [] (disk.seen volume.device)
  pub lengths_fit : HasLengths volume.table (block_at (disk.seen volume.device))
  pub lengths_are : volume.lengths ≡ lengths_in volume.table (block_at (disk.seen volume.device))
  pub synced : Only (disk.may_leave volume.device) (disk.seen volume.device)

-- The table and the lengths obey the format's rules, and the device is long enough for them. In a layout without a
-- lengths block, the lengths are the capacities. If the device is honest, the volume is at rest.
pub record IsWellFormed {D : Type 0} (disk : Ghosts D) (volume : VolumeState D) : Type 0 where
  pub fits : Fits volume.table
  pub long : 4096 * block_count volume.table ≤ length (disk.seen volume.device)
  pub lengths : AreLengths volume.table volume.lengths
  pub fixed : lengths_blocks volume.table.layout ≡ 0 → volume.lengths ≡ capacities_in volume.table
  pub at_rest : disk.is_honest volume.device → IsAtRest disk volume

-- the files of a volume with closed gates, if its device has these bytes
abbrev pub files_of : SuperValue → List ℕ → List File
files_of table bytes = files_in table (block_at bytes)

-- the bytes of file i
abbrev pub bytes_of : List File → ℕ → List ℕ
bytes_of files i = slice_index_or (map (λ f. f.bytes) files) i []
