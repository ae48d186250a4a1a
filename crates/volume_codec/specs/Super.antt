-- The super block: a volume's layout, the table of its files, and the number of record slots of each journal.
use Rattle.std.specs.Prelude.{◌≡◌, ◌≢◌, ℕ, ◌+◌, ◌/◌, ◌<◌, ◌≤◌, ◌^◌, List, [], ◌∷◌, ◌++◌, length, take, map}
use Rattle.std.specs.List.{AllByRecursion}
use Rattle.volume_codec.specs.declared.layout.Layout.{Layout}
use Rattle.volume_codec.specs.Layout.{GeometryValue, number_of, magic_of, lengths_blocks, first_file_home, max_slots}
use Rattle.volume_codec.specs.Files.{TableFile, AskedFile}
use Rattle.volume_codec.specs.Text.{number_text, zeros, padded}

-- the content of a super block: the layout, the files in order, and the number of record slots of each journal
pub record SuperValue : Type 0 where
  pub layout : Layout
  pub files : List TableFile
  pub slots : ℕ

-- the number of blocks that n bytes need
abbrev pub pages_of : ℕ → ℕ
pages_of n = (n + 4095) / 4096

-- the number of blocks that these files need
abbrev pub total_pages : List TableFile → ℕ
total_pages [] = 0
total_pages (f ∷ fs) = pages_of f.capacity + total_pages fs

-- The first home block of file i. The files follow one another, in the table's order.
abbrev pub first_home_of : SuperValue → ℕ → ℕ
first_home_of v i = first_file_home v.layout v.slots + total_pages (take i v.files)

-- the names of the files, in order
abbrev pub names_in : SuperValue → List (List ℕ)
names_in v = map (λ f. f.name) v.files

-- the capacities of the files, in order
abbrev pub capacities_in : SuperValue → List ℕ
capacities_in v = map (λ f. f.capacity) v.files

-- the number of blocks of the volume
abbrev pub block_count : SuperValue → ℕ
block_count v = first_file_home v.layout v.slots + total_pages v.files

-- the geometry of the volume
abbrev pub geometry_of : SuperValue → GeometryValue
geometry_of v = record { layout = v.layout; slots = v.slots; blocks = block_count v }

-- the 48 bytes of the entry for a file whose first home block is `home`
abbrev pub entry_text : ℕ → TableFile → List ℕ
entry_text home f =
    padded 32 f.name ++ number_text 8 f.capacity ++ number_text 4 home ++ number_text 4 (pages_of f.capacity)

-- the entries for these files, whose home blocks begin at block `home`
abbrev pub entries_text : ℕ → List TableFile → List ℕ
entries_text home [] = []
entries_text home (f ∷ fs) = entry_text home f ++ entries_text (home + pages_of f.capacity) fs

-- the 32 bytes before the entries
abbrev pub super_head : SuperValue → List ℕ
super_head v =
    magic_of v.layout ++ number_text 4 (length v.files) ++ number_text 4 v.slots
    ++ number_text 4 (block_count v) ++ zeros 12

-- the only encoding of a value, in 4,096 bytes
abbrev pub super_text : SuperValue → List ℕ
super_text v = padded 4096 (super_head v ++ entries_text (first_file_home v.layout v.slots) v.files)

-- The byte is a printable ASCII character other than the space.
abbrev pub IsNameByte : ℕ → Type 0
IsNameByte b = (0x21 ≤ b) × (b ≤ 0x7E)

-- A name has 1 to 32 bytes, all of them printable and none of them a space.
pub record IsName (name : List ℕ) : Type 0 where
  pub some : 0 < length name
  pub short : length name ≤ 32
  pub printable : AllByRecursion IsNameByte name

-- A file of the table has a valid name, and a capacity of at least one byte.
pub record IsTableFile (f : TableFile) : Type 0 where
  pub named : IsName f.name
  pub some : 0 < f.capacity

-- No two of these names are equal.
abbrev pub AreDistinct : List (List ℕ) → Type 0
AreDistinct [] = Unit {0}
AreDistinct (name ∷ names) = AllByRecursion (λ other. other ≢ name) names × AreDistinct names

-- The rules for the content of a super block. There are 1 to 64 files with distinct names. A journal has slots for the
-- lengths and for at least one page, and at most the layout's maximum. The volume has fewer than 2 ^ 32 blocks.
pub record Fits (v : SuperValue) : Type 0 where
  pub some_files : 0 < length v.files
  pub few_files : length v.files ≤ 64
  pub each : AllByRecursion IsTableFile v.files
  pub distinct : AreDistinct (names_in v)
  pub some_slots : lengths_blocks v.layout < v.slots
  pub few_slots : v.slots ≤ max_slots v.layout
  pub few_blocks : block_count v < 2 ^ 32

-- The grammar of super blocks: the block is the encoding of this value.
pub record IsSuper (v : SuperValue) (block : List ℕ) : Type 0 where
  pub fits : Fits v
  pub spelled : block ≡ super_text v

-- A file may have this length in the layout. It is at most the capacity. In a layout without a lengths block, it equals
-- the capacity.
abbrev pub IsLengthIn : Layout → ℕ → ℕ → Type 0
IsLengthIn layout n capacity = (n ≤ capacity) × (lengths_blocks layout ≡ 0 → n ≡ capacity)

-- The table is the one requested by the layout's number, the files and the number of slots.
pub record IsAsked (layout : ℕ) (files : List AskedFile) (slots : ℕ) (v : SuperValue) : Type 0 where
  pub layout_is : number_of v.layout ≡ layout
  pub files_are : v.files ≡ map (λ f. record { name = f.name; capacity = f.capacity }) files
  pub slots_are : v.slots ≡ slots
  pub lengths : AllByRecursion (λ f. IsLengthIn v.layout f.length f.capacity) files
  pub fits : Fits v
