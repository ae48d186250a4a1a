-- What an inspection finds in a volume, as JSON. The members of an object are sorted by name.
use Rattle.std.specs.Prelude.{ℕ, zero, suc, ◌*◌, true, false, codes, List, [], ◌∷◌}
use Rattle.std.specs.Prelude.{◌++◌, map, length, slice_index, Option, Some, None}
use Rattle.serde_json.specs.Data.{Data, object, number, unsigned, boolean, string, array, member, no_members}
use Rattle.serde_json.specs.View.{items_of}
use Rattle.volume_codec.specs.Layout.{number_of}
use Rattle.volume_codec.specs.Super.{SuperValue, pages_of, first_home_of, block_count, capacities_in}
use Rattle.volume_codec.specs.Descriptor.{DescriptorValue}
use Rattle.inspection.specs.declared.found.Journal.{Journal}
use Rattle.inspection.specs.declared.found.Found.{Found}
use Rattle.inspection.specs.declared.health.Health.{Health}
use Rattle.inspection.specs.declared.place.HomePage.{HomePage}
use Rattle.inspection.specs.Places.{place_in}
use Rattle.inspection.specs.Text.{name_of, health_words}

-- a whole number
abbrev pub num : ℕ → Data
num n = number (unsigned n)

abbrev pub list : List Data → Data
list items = array (items_of items)

-- a file of n bytes
abbrev pub file_members : List ℕ → ℕ → ℕ → ℕ → ℕ → Data
file_members name n capacity pages home =
    object (member (codes "capacity") (num capacity)
    (member (codes "home") (num home)
    (member (codes "length") (num n)
    (member (codes "name") (string name)
    (member (codes "pages") (num pages) no_members)))))

-- file i, whose length is n
abbrev pub file_data : SuperValue → ℕ → ℕ → Data
file_data v i n = file_members (name_of v i) n (slice_index (capacities_in v) i)
    (pages_of (slice_index (capacities_in v) i)) (first_home_of v i)

-- The files before file `i`. `lengths` are the lengths of all files.
abbrev pub files_data : SuperValue → List ℕ → ℕ → List Data
files_data v lengths zero = []
files_data v lengths (suc i) = files_data v lengths i ++ file_data v i (slice_index lengths i) ∷ []

-- A home block: its file and page. A block that belongs to no file has its number instead.
abbrev pub place_data : SuperValue → ℕ → Option HomePage → Data
place_data v h None = object (member (codes "block") (num h) no_members)
place_data v h (Some place) =
    object (member (codes "file") (string (name_of v place.file))
    (member (codes "page") (num place.page) no_members))

abbrev pub home_data : SuperValue → ℕ → Data
home_data v h = place_data v h (place_in v h)

abbrev pub homes_data : SuperValue → List ℕ → List Data
homes_data v homes = map (home_data v) homes

-- A closed journal: its number, and the byte of its gate.
abbrev pub closed_data : ℕ → ℕ → Data
closed_data n gate =
    object (member (codes "gate") (num gate)
    (member (codes "number") (num n)
    (member (codes "open") (boolean false) no_members)))

abbrev pub open_data : ℕ → ℕ → ℕ → Data → Data
open_data n gate mark blocks =
    object (member (codes "blocks") blocks
    (member (codes "gate") (num gate)
    (member (codes "mark") (num mark)
    (member (codes "number") (num n)
    (member (codes "open") (boolean true) no_members)))))

abbrev pub state_data : SuperValue → ℕ → ℕ → Option DescriptorValue → Data
state_data v n gate None = closed_data n gate
state_data v n gate (Some d) = open_data n gate d.mark (list (homes_data v d.homes))

abbrev pub journal_data : {Z : Type 0} → SuperValue → Journal Z → Data
journal_data v journal = state_data v journal.number journal.gate journal.descriptor

abbrev pub journals_data : {Z : Type 0} → SuperValue → List (Journal Z) → List Data
journals_data v journals = map (journal_data v) journals

-- A volume with these files and journals. An opening of it makes `calls` device calls.
abbrev pub volume_data : SuperValue → ℕ → Data → Data → Data
volume_data v calls files journals =
    object (member (codes "blocks") (num (block_count v))
    (member (codes "bytes") (num (4096 * block_count v))
    (member (codes "files") files
    (member (codes "journals") journals
    (member (codes "layout") (num (number_of v.layout))
    (member (codes "opening_calls") (num calls)
    (member (codes "slots") (num v.slots) no_members)))))))

-- Everything that an inspection finds in a volume.
abbrev pub info_data : {Z : Type 0} → Found Z → Data
info_data found = volume_data found.table found.calls
    (list (files_data found.table found.lengths.items (length found.table.files)))
    (list (journals_data found.table found.journals.items))

-- The health of a volume.
abbrev pub health_data : Health → Data
health_data health = object (member (codes "state") (string (health_words health)) no_members)

abbrev pub damage_data : List ℕ → Data
damage_data cause =
    object (member (codes "cause") (string cause) (member (codes "state") (string (codes "damaged")) no_members))
