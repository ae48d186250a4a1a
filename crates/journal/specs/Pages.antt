-- The home blocks of a batch of pages.
use Rattle.std.specs.Prelude.{ℕ, ◌+◌, ◌<◌, ◌++◌, if◌then◌else◌, Bool, List, [], ◌∷◌, length, map}
use Rattle.page_entry.specs.declared.numbers.FilePage.{FilePage}
use Rattle.volume_codec.specs.Layout.{first_home}
use Rattle.volume_codec.specs.Super.{SuperValue, first_home_of, block_count}

-- the home block of a page of a file
abbrev pub home_of : SuperValue → FilePage → ℕ
home_of table owner = first_home_of table owner.file + owner.page

-- The page's file is in the table, and its home block is in the volume.
pub record HasHome (table : SuperValue) (owner : FilePage) : Type 0 where
  pub file : owner.file < length table.files
  pub within : home_of table owner < block_count table

-- The home blocks of a batch: that of the lengths if a length was set, then those of its pages.
abbrev pub homes_of : SuperValue → Bool → List FilePage → List ℕ
homes_of table resized pages =
    (if resized then first_home table.layout table.slots ∷ [] else []) ++ map (home_of table) pages
