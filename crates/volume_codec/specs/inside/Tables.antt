-- The values that the code's tables of files represent.
use Rattle.std.specs.Prelude.{◌≡◌, ℕ, ◌+◌, List, [], ◌∷◌, map}
use Rattle.std.specs.List.{AllByRecursion}
use Rattle.std.specs.String.{string_bytes}
use Rattle.std.specs.declared.string.String.{String}
use Rattle.volume_codec.specs.declared.file_spec.FileSpec.{FileSpec}
use Rattle.volume_codec.specs.declared.layout.Layout.{Layout}
use Rattle.volume_codec.specs.declared.super_block.Extent.{Extent}
use Rattle.volume_codec.specs.Files.{TableFile}
use Rattle.volume_codec.specs.Layout.{first_file_home}
use Rattle.volume_codec.specs.Super.{SuperValue, Fits, IsLengthIn, pages_of, block_count}

-- the files of the requested table
abbrev pub files_asked_for : List FileSpec → List TableFile
files_asked_for files = map (λ f. record { name = f.name.now; capacity = f.capacity }) files

-- the names of the requested files
abbrev pub names_of : List FileSpec → List (List ℕ)
names_of files = map (λ f. f.name.now) files

-- the requested table, in this layout
abbrev pub table_of : Layout → List FileSpec → ℕ → SuperValue
table_of layout files slots = record { layout = layout; files = files_asked_for files; slots = slots }

-- Each requested file has a length that the layout allows.
abbrev pub HaveLengths : Layout → List FileSpec → Type 0
HaveLengths layout files = AllByRecursion (λ f. IsLengthIn layout f.length f.capacity) files

-- Each requested file is as long as its capacity.
abbrev pub AreFull : List FileSpec → Type 0
AreFull files = AllByRecursion (λ f. f.length ≡ f.capacity) files

-- the files in a map from names to places, in the map's order
abbrev pub rows_of : {Z : Type 0} → List (String Z × Extent) → List TableFile
rows_of rows = map (λ row. record { name = string_bytes row.0; capacity = row.1.capacity }) rows

-- the first home block of each file in such a map
abbrev pub homes_of : {Z : Type 0} → List (String Z × Extent) → List ℕ
homes_of rows = map (λ row. row.1.first_home) rows

-- the first home block of each of these files; that of the first file is `home`
abbrev pub homes_from : ℕ → List TableFile → List ℕ
homes_from home [] = []
homes_from home (f ∷ fs) = home ∷ homes_from (home + pages_of f.capacity) fs

-- The values that a table keeps besides its content: each file's first home block, and the number of blocks. The
-- content obeys the rules.
pub record IsKept (v : SuperValue) (homes : List ℕ) (blocks : ℕ) : Type 0 where
  pub fits : Fits v
  pub homes_are : homes ≡ homes_from (first_file_home v.layout v.slots) v.files
  pub blocks_are : blocks ≡ block_count v
