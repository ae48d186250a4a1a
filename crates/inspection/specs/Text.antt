-- The lines that are printed about a volume.
use Rattle.std.specs.Prelude.{ℕ, zero, suc, ◌*◌, ◌/◌, ◌%◌, ◌==◌, if◌then◌else◌, false, codes, List}
use Rattle.std.specs.Prelude.{[], ◌∷◌, ◌++◌, length, slice_index, slice_index_or, Option, Some, None}
use Rattle.std.specs.List.{flat_map}
use Rattle.std.specs.Fmt.{decimal, digit_glyph}
use Rattle.volume_codec.specs.Layout.{number_of}
use Rattle.volume_codec.specs.Super.{SuperValue, pages_of, first_home_of, block_count, names_in, capacities_in}
use Rattle.volume_codec.specs.Descriptor.{DescriptorValue}
use Rattle.inspection.specs.declared.found.Journal.{Journal}
use Rattle.inspection.specs.declared.found.Found.{Found}
use Rattle.inspection.specs.declared.health.Health.{Health}
use Rattle.inspection.specs.declared.health.Health.TheVariants.{Clean, NeedsOpening}
use Rattle.inspection.specs.declared.place.HomePage.{HomePage}
use Rattle.inspection.specs.Places.{place_in}

-- the name of file i
abbrev pub name_of : SuperValue → ℕ → List ℕ
name_of v i = slice_index_or (names_in v) i []

abbrev pub volume_line : SuperValue → List ℕ
volume_line v =
    codes "layout " ++ decimal (number_of v.layout) ++ codes ", " ++ decimal v.slots ++ codes " slots, "
    ++ decimal (block_count v) ++ codes " blocks, " ++ decimal (4096 * block_count v) ++ codes " bytes\n"

-- The capacity of a file, if it isn't the file's length, and a line feed.
abbrev pub capacity_text : ℕ → ℕ → List ℕ
capacity_text n capacity = if capacity == n then 10 ∷ [] else codes ", capacity " ++ decimal capacity ++ 10 ∷ []

abbrev pub file_name : List ℕ → List ℕ
file_name name = codes "file " ++ name ++ codes ": "

abbrev pub file_size : ℕ → ℕ → ℕ → List ℕ
file_size n pages home =
    decimal n ++ (codes " bytes, " ++ (decimal pages ++ (codes " pages, home " ++ decimal home)))

-- A file of `n` bytes, whose home blocks begin at `home`.
abbrev pub file_text : List ℕ → ℕ → ℕ → ℕ → List ℕ
file_text name n capacity home = file_name name ++ file_size n (pages_of capacity) home ++ capacity_text n capacity

-- file i, whose length is n
abbrev pub file_line : SuperValue → ℕ → ℕ → List ℕ
file_line v i n = file_text (name_of v i) n (slice_index (capacities_in v) i) (first_home_of v i)

-- The files before file `i`. `lengths` are the lengths of all files.
abbrev pub file_lines : SuperValue → List ℕ → ℕ → List ℕ
file_lines v lengths zero = []
file_lines v lengths (suc i) = file_lines v lengths i ++ file_line v i (slice_index lengths i)

-- A home block: a space, the name of its file, a colon, and the number of its page in the file. A block that belongs to
-- no file has its number instead.
abbrev pub place_text : SuperValue → ℕ → Option HomePage → List ℕ
place_text v h None = codes " block " ++ decimal h
place_text v h (Some place) = 32 ∷ name_of v place.file ++ 58 ∷ decimal place.page

abbrev pub home_text : SuperValue → ℕ → List ℕ
home_text v h = place_text v h (place_in v h)

abbrev pub homes_text : SuperValue → List ℕ → List ℕ
homes_text v homes = flat_map (home_text v) homes

-- A descriptor: its mark, the number of its home blocks, then the home blocks.
abbrev pub open_head : ℕ → ℕ → List ℕ
open_head mark count =
    codes " open, mark " ++ (decimal mark ++ (codes ", " ++ (decimal count ++ codes " blocks:")))

abbrev pub open_text : SuperValue → DescriptorValue → List ℕ
open_text v d = open_head d.mark (length d.homes) ++ homes_text v d.homes ++ 10 ∷ []

abbrev pub state_text : SuperValue → Option DescriptorValue → List ℕ
state_text v None = codes " closed\n"
state_text v (Some d) = open_text v d

abbrev pub journal_name : ℕ → List ℕ
journal_name n = codes "journal " ++ decimal n ++ codes ": gate "

-- the byte of a gate in two hexadecimal digits
abbrev pub gate_text : ℕ → List ℕ
gate_text gate = digit_glyph false (gate / 16) ∷ digit_glyph false (gate % 16) ∷ []

-- A journal: its number, the byte of its gate, and the descriptor if the gate is open.
abbrev pub journal_line : {Z : Type 0} → SuperValue → Journal Z → List ℕ
journal_line v journal =
    journal_name journal.number ++ gate_text journal.gate ++ state_text v journal.descriptor

abbrev pub journal_lines : {Z : Type 0} → SuperValue → List (Journal Z) → List ℕ
journal_lines v journals = flat_map (journal_line v) journals

-- The number of device calls that an opening makes.
abbrev pub calls_line : ℕ → List ℕ
calls_line calls = codes "opening makes " ++ decimal calls ++ codes " device calls\n"

-- Everything that an inspection finds in a volume.
abbrev pub info_text : {Z : Type 0} → Found Z → List ℕ
info_text found =
    volume_line found.table ++ file_lines found.table found.lengths.items (length found.table.files)
    ++ journal_lines found.table found.journals.items
    ++ calls_line found.calls

-- The health of a volume, in words.
abbrev pub health_words : Health → List ℕ
health_words Clean = codes "clean"
health_words NeedsOpening = codes "needs opening"
