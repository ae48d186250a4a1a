-- What holds of the files of every volume with a log.
use Rattle.std.specs.Prelude.{ℕ, ◌≡◌, ◌+◌, ◌*◌, ◌<◌, ◌≤◌, List, length, None, slice_index_or}
use Rattle.volume_codec.specs.Super.{Fits, capacities_in, pages_of}
use Rattle.volume_codec.specs.Lengths.{AreLengths}
use Rattle.volume_codec.specs.Descriptor.{RiseWithin}
use Rattle.kept_blocks.specs.Blocks.{Blocks, homes_in, bytes_in}
use Rattle.pager.specs.State.{file_length}
use Rattle.log_codec.specs.Log.{IsLog, IsCommitSize, first_log_home}
use Rattle.log_volume.specs.Super.{LogSuperValue, table_of, log_of}
use Rattle.log_files.specs.State.{LogFilesState, log_first_home_of, pages_put}

-- Holds if the home block does not belong to a page past its file's end, given these lengths.
abbrev pub IsInsideFile : LogSuperValue → List ℕ → ℕ → Type 0
IsInsideFile v lengths home = (file : ℕ)
    → log_first_home_of v file + pages_of (file_length lengths file) ≤ home → home < log_first_home_of v (file + 1) → ⊥

-- Holds if no page past its file's end is staged.
abbrev pub AreInsideFiles : LogSuperValue → List ℕ → Blocks → Type 0
AreInsideFiles v lengths staged = (file home : ℕ)
    → log_first_home_of v file + pages_of (file_length lengths file) ≤ home → home < log_first_home_of v (file + 1)
    → bytes_in staged home ≡ None

-- The device is long enough for the volume, and the pager has the volume's log. Each file has a length. The staged
-- pages begin before their files' ends, and one commit may take all of them.
pub record IsSoundLogFiles {D : Type 0} (seen : D → List ℕ) (s : LogFilesState D) : Type 0 where
  pub fits : Fits (table_of s.table)
  pub log : IsLog (log_of s.table)
  pub same_log : s.pager.store.tail.log ≡ log_of s.table
  pub long : 4096 * (log_of s.table).blocks ≤ length (seen s.pager.device)
  pub lengths : AreLengths (table_of s.table) s.lengths
  pub rising : RiseWithin (first_log_home s.table.ring) (log_of s.table).blocks (homes_in s.pager.staged)
  pub ends : AreInsideFiles s.table s.lengths s.pager.staged
  pub few : pages_put s.table s.pager.staged ≤ s.most
  pub size : IsCommitSize s.table.ring (s.most + 1)

-- There is a file with this number, and its home blocks suffice for this length.
pub record MayHaveLogLength (v : LogSuperValue) (file to : ℕ) : Type 0 where
  pub there : file < length v.files
  pub fits : to ≤ slice_index_or (capacities_in (table_of v)) file 0
