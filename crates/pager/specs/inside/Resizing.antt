-- A length that a file may have.
use Rattle.std.specs.Prelude.{ℕ, ◌≡◌, ◌<◌, ◌≤◌, length, slice_index_or}
use Rattle.volume_codec.specs.Layout.{lengths_blocks}
use Rattle.volume_codec.specs.Super.{SuperValue, capacities_in}

-- The layout has a block for lengths, there is such a file, and its home blocks have room for `to` bytes.
pub record MayHaveLength (table : SuperValue) (file to : ℕ) : Type 0 where
  pub block : lengths_blocks table.layout ≡ 1
  pub there : file < length table.files
  pub fits : to ≤ slice_index_or (capacities_in table) file 0
