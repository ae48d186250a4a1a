-- The state of a pager, as contracts name it.
use Rattle.std.specs.Prelude.{ℕ, ◌+◌, ◌-◌, ◌*◌, ◌<◌, ◌≤◌, if◌then◌else◌, Bool, List, [], length, take, slice_index_or}
use Rattle.std.specs.Prelude.{is_some, is_none, ◌&&◌, nat_le, Option, Some, None, unwrap_or}
use Rattle.std.specs.Option.{option_or}
use Rattle.page_entry.specs.declared.numbers.FilePage.{FilePage}
use Rattle.volume_codec.specs.Layout.{first_home, lengths_blocks, block_at}
use Rattle.volume_codec.specs.Super.{SuperValue, geometry_of, first_home_of, pages_of}
use Rattle.volume_codec.specs.Text.{padded, zeros}
use Rattle.journal.specs.WriteOuts.{WriteOutsValue, none_of}
use Rattle.recovery.specs.Volume.{VolumeState}
use Rattle.kept_blocks.specs.Blocks.{Blocks, bytes_in, newest_in}

-- A pager with its device. `table` lists the volume's files, and `lengths` are their lengths in bytes. `most` is the
-- largest number of pages of files in a commit. `staged` are the blocks that were put since the last commit began.
-- `write_outs` are the write-outs that aren't done, and `records` the blocks of each, the oldest first. `marks` is the
-- number of commits that began since the opening.
pub record PagerState (D : Type 0) : Type 0 where
  pub table : SuperValue
  pub lengths : List ℕ
  pub most : ℕ
  pub staged : Blocks
  pub write_outs : WriteOutsValue
  pub records : List Blocks
  pub marks : ℕ
  pub device : D

-- the pager of a volume that was just opened
abbrev pub newly_opened : {D : Type 0} → VolumeState D → ℕ → PagerState D
newly_opened volume most = record {
  table = volume.table;
  lengths = volume.lengths;
  most = most;
  staged = [];
  write_outs = none_of (geometry_of volume.table);
  records = [];
  marks = 0;
  device = volume.device;
}

-- the table, lengths and device of a pager, as a volume
abbrev pub volume_in : {D : Type 0} → PagerState D → VolumeState D
volume_in s = record { table = s.table; lengths = s.lengths; device = s.device }

-- the length of a file in bytes
abbrev pub file_length : List ℕ → ℕ → ℕ
file_length lengths file = slice_index_or lengths file 0

-- The home block is not that of a page past its file's end, if the files have these lengths.
abbrev pub IsBeforeEnd : SuperValue → List ℕ → ℕ → Type 0
IsBeforeEnd table lengths home = (file : ℕ)
    → first_home_of table file + pages_of (file_length lengths file) ≤ home → home < first_home_of table (file + 1) → ⊥

-- the bytes of a page up to its file's end, then zeros, if the files have these lengths
abbrev pub up_to_end : List ℕ → FilePage → List ℕ → List ℕ
up_to_end lengths owner bytes = padded 4096 (take (file_length lengths owner.file - 4096 * owner.page) bytes)

-- The bytes of a home block that are kept in memory: the latest bytes that were put, or else those of the newest
-- unfinished commit that contains the block.
abbrev pub kept_bytes : Blocks → List Blocks → ℕ → Option (List ℕ)
kept_bytes staged records home = option_or (bytes_in staged home) (newest_in records home)

-- the bytes that callers read from a home block, if a read of the disk returns the bytes `disk`
abbrev pub current_in : Blocks → List Blocks → List ℕ → ℕ → List ℕ
current_in staged records disk home = unwrap_or (kept_bytes staged records home) (block_at disk home)

-- The number of blocks of the next commit that are reserved for the lengths. It is 1 if the layout has a block for them
-- that isn't put yet, otherwise 0.
abbrev pub reserved : SuperValue → Blocks → ℕ
reserved table staged =
    if is_some (bytes_in staged (first_home table.layout table.slots)) then 0 else lengths_blocks table.layout

-- whether the next commit has no room for this home block
abbrev pub is_full : SuperValue → ℕ → Blocks → ℕ → Bool
is_full table most staged home =
    is_none (bytes_in staged home)
    && nat_le (most + lengths_blocks table.layout) (length staged + reserved table staged)

-- the bytes that a step writes as the record of this home block, if it writes one
abbrev pub record_for : List Blocks → Option ℕ → List ℕ
record_for records None = zeros 4096
record_for records (Some home) = unwrap_or (newest_in records home) (zeros 4096)
