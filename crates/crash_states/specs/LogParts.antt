-- Which part of a volume with a log a block is. Starts, positions in the log, and files are counted from 0.
use Rattle.std.specs.Prelude.{ℕ, ◌≡◌, ◌+◌, ◌<◌, ◌≤◌, length, slice_index}
use Rattle.volume_codec.specs.Super.{capacities_in, pages_of, first_home_of}
use Rattle.log_codec.specs.Log.{first_log_home, ring_block}
use Rattle.log_volume.specs.Super.{LogSuperValue, table_of, log_of}
use Rattle.crash_states.specs.declared.any_part.VolumePlaces.{VolumePlaces}
use Rattle.crash_states.specs.declared.any_part.VolumePlaces.TheVariants.{Journals, Log}
use Rattle.crash_states.specs.declared.part.Part.{Part}
use Rattle.crash_states.specs.declared.part.Part.TheVariants as parts
use Rattle.crash_states.specs.Parts.{IsPartOf}

-- The block is the home block of this page of this file. It comes `ring + 1` blocks later than in layout 1 with one
-- slot: the blocks of the log, and one block for the lengths.
pub record IsLogHomeOf (v : LogSuperValue) (file page block : ℕ) : Type 0 where
  pub there : file < length v.files
  pub within : page < pages_of (slice_index (capacities_in (table_of v)) file)
  pub placed : block ≡ first_home_of (table_of v) file + page + (v.ring + 1)

-- The block is a home block, but of no page of a file.
pub record IsOfNoLogFile (v : LogSuperValue) (block : ℕ) : Type 0 where
  pub low : first_log_home v.ring ≤ block
  pub high : block < (log_of v).blocks
  pub none : (file page : ℕ) → IsLogHomeOf v file page block → ⊥

-- The block is this part of a volume with a log.
abbrev pub IsLogPartOf : LogSuperValue → ℕ → Part → Type 0
IsLogPartOf v block parts.Super = block ≡ 0
IsLogPartOf v block parts.Selector = block ≡ 1
IsLogPartOf v block (parts.Start i) = (i < 2) × (block ≡ 2 + i)
IsLogPartOf v block (parts.Log p) = (p < v.ring) × (block ≡ ring_block v.ring p)
IsLogPartOf v block (parts.Home b) = (b ≡ block) × IsOfNoLogFile v block
IsLogPartOf v block (parts.Page file page) = IsLogHomeOf v file page block
IsLogPartOf v block parts.Outside = (log_of v).blocks ≤ block
IsLogPartOf v block (parts.Gate j) = ⊥
IsLogPartOf v block (parts.Descriptor j) = ⊥
IsLogPartOf v block (parts.Record j i) = ⊥

-- The block is this part of a volume in any layout.
abbrev pub IsAnyPartOf : {Z : Type 0} → VolumePlaces Z → ℕ → Part → Type 0
IsAnyPartOf (Journals places) block part = IsPartOf places.table block part
IsAnyPartOf (Log places) block part = IsLogPartOf places.table block part
