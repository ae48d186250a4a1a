-- The lengths of files, and their encoding in a lengths block, if the layout has one.
use Rattle.std.specs.Prelude.{◌≡◌, ℕ, ◌<◌, ◌≤◌, ◌==◌, if◌then◌else◌, List, length, Some, slice_get}
use Rattle.std.specs.List.{flat_map}
use Rattle.volume_codec.specs.Files.{TableFile}
use Rattle.volume_codec.specs.Layout.{lengths_blocks, first_home}
use Rattle.volume_codec.specs.Text.{number_text, numbers_in, padded}
use Rattle.volume_codec.specs.Super.{SuperValue, capacities_in}

-- Each file has a length, and none exceeds its file's capacity.
pub record AreLengths (v : SuperValue) (lengths : List ℕ) : Type 0 where
  pub count : length lengths ≡ length v.files
  pub within : (i n : ℕ) (f : TableFile) → slice_get v.files i ≡ Some f → slice_get lengths i ≡ Some n → n ≤ f.capacity

-- the only encoding of lengths, in 4,096 bytes
abbrev pub lengths_text : List ℕ → List ℕ
lengths_text lengths = padded 4096 (flat_map (number_text 8) lengths)

-- The grammar of lengths blocks: in a volume with this table, the block is the encoding of these lengths.
pub record IsLengths (v : SuperValue) (lengths : List ℕ) (block : List ℕ) : Type 0 where
  pub are : AreLengths v lengths
  pub spelled : block ≡ lengths_text lengths

-- the lengths of the files in these contents: those in the lengths block, or the capacities if there is no such block
abbrev pub lengths_in : SuperValue → (ℕ → List ℕ) → List ℕ
lengths_in v contents =
    if lengths_blocks v.layout == 0 then capacities_in v
    else numbers_in 8 (length v.files) (contents (first_home v.layout v.slots))

-- The lengths of the files in these contents are valid. If the layout has a lengths block, it is the encoding of the
-- lengths.
pub record HasLengths (v : SuperValue) (contents : ℕ → List ℕ) : Type 0 where
  pub are : AreLengths v (lengths_in v contents)
  pub spelled : 0 < lengths_blocks v.layout
      → contents (first_home v.layout v.slots) ≡ lengths_text (lengths_in v contents)
