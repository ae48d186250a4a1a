-- What holds of every pager.
use Rattle.std.specs.Prelude.{ℕ, ◌≡◌, ◌+◌, ◌*◌, ◌<◌, ◌≤◌, List, length, map, None}
use Rattle.std.specs.List.{AllByRecursion}
use Rattle.volume_codec.specs.Layout.{first_home, journals_of, lengths_blocks, max_frames}
use Rattle.volume_codec.specs.Super.{SuperValue, Fits, block_count, geometry_of, first_home_of, pages_of}
use Rattle.volume_codec.specs.Lengths.{AreLengths}
use Rattle.volume_codec.specs.Descriptor.{RiseWithin}
use Rattle.kept_blocks.specs.Blocks.{Blocks, homes_in, bytes_in}
use Rattle.pager.specs.State.{PagerState, file_length, reserved}

-- No page past its file's end is put.
abbrev pub EndsWithin : SuperValue → List ℕ → Blocks → Type 0
EndsWithin table lengths staged = (file home : ℕ)
    → first_home_of table file + pages_of (file_length lengths file) ≤ home → home < first_home_of table (file + 1)
    → bytes_in staged home ≡ None

-- The device is long enough for the volume, and each file has a length. The put blocks are not past their files' ends,
-- and fit in one commit. Each write-out has its blocks, and no write-out's mark is above the number of marks.
pub record IsSound {D : Type 0} (seen : D → List ℕ) (s : PagerState D) : Type 0 where
  pub fits : Fits s.table
  pub long : 4096 * block_count s.table ≤ length (seen s.device)
  pub lengths : AreLengths s.table s.lengths
  pub geometry : s.write_outs.geometry ≡ geometry_of s.table
  pub rising : RiseWithin (first_home s.table.layout s.table.slots) (block_count s.table) (homes_in s.staged)
  pub ends : EndsWithin s.table s.lengths s.staged
  pub few : length s.staged + reserved s.table s.staged ≤ s.most + lengths_blocks s.table.layout
  pub most : s.most ≤ max_frames s.table.layout s.table.slots
  pub tied : map (λ w. w.batch.homes) s.write_outs.batches ≡ map homes_in s.records
  pub few_batches : length s.write_outs.batches ≤ journals_of s.table.layout
  pub marked : AllByRecursion (λ w. w.batch.mark ≤ s.marks) s.write_outs.batches

-- The pager is sound. It has memory for a list of blocks for each journal, and for the numbers of a commit's blocks.
pub record IsPager {D : Type 0} (seen : D → List ℕ) (s : PagerState D) (list_room home_room : ℕ) : Type 0 where
  pub sound : IsSound seen s
  pub lists : journals_of s.table.layout ≤ list_room
  pub homes : s.table.slots ≤ home_room
