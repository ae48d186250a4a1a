-- The rules of tables, where the code sees names and capacities.
use Rattle.std.proofs.Common.{◌≡◌, ◌≢◌, ℕ, ◌-◌, ◌<◌, ◌≤◌, ◌^◌, List, [], ◌∷◌, length, take}
use Rattle.std.proofs.Common.{drop, map, get_or, All, refl, sym, ap, subst, ◌∙◌, arith}
use Rattle.std.specs.List.{AllByRecursion}
use Rattle.std.proofs.lemmas.List.{take_all, length-map}
use Rattle.std.proofs.lemmas.List.Elements.{All-from_recursion, recursion_from_All}
use Rattle.volume_codec.specs.declared.file_spec.FileSpec.{FileSpec}
use Rattle.volume_codec.specs.declared.layout.Layout.{Layout}
use Rattle.volume_codec.specs.Files.{TableFile, AskedFile, asked_by}
use Rattle.volume_codec.specs.Layout.{number_of, lengths_blocks, max_slots}
use Rattle.volume_codec.specs.Super.{SuperValue, IsName, IsTableFile, AreDistinct}
use Rattle.volume_codec.specs.Super.{Fits, IsLengthIn, IsAsked, block_count}
use Rattle.volume_codec.specs.inside.Tables.{files_asked_for, names_of, table_of, AreFull, HaveLengths}
use Rattle.volume_codec.proofs.Layouts.{number_of-injective}

-- a fact of each image is a fact of each element
pub each_of-map : {X Y : Type 0} (P : Y → Type 0) (f : X → Y) (xs : List X) → AllByRecursion (λ x. P (f x)) xs
    → AllByRecursion P (map f xs)
each_of-map P f [] h = tt
each_of-map P f (x ∷ xs) h = (h.0, each_of-map P f xs h.1)

pub each-from_map : {X Y : Type 0} (P : Y → Type 0) (f : X → Y) (xs : List X) → AllByRecursion P (map f xs)
    → AllByRecursion (λ x. P (f x)) xs
each-from_map P f [] h = tt
each-from_map P f (x ∷ xs) h = (h.0, each-from_map P f xs h.1)

-- what follows the first element
abbrev pub rest_of : {X : Type 0} → List X → List X
rest_of xs = take (length xs - 1) (drop 1 xs)

rest_of-cons : {X : Type 0} (x : X) (xs : List X) → rest_of (x ∷ xs) ≡ xs
rest_of-cons x xs = take_all (length (x ∷ xs) - 1) xs (omega arith)

-- names are distinct where the first is none of the others, and these are distinct
pub distinct_by_first : (files : List FileSpec) (d : FileSpec) → 1 ≤ length files
    → All (λ f. f.name.now ≢ (get_or files 0 d).name.now) (rest_of files) → AreDistinct (names_of (rest_of files))
    → AreDistinct (names_of files)
distinct_by_first [] d h free rest = absurd (omega arith)
distinct_by_first (f ∷ files) d h free rest =
    let e = rest_of-cons f files in
    let P : List FileSpec → Type 0 = λ fs. All (λ g. g.name.now ≢ f.name.now) fs in
    let Q : List FileSpec → Type 0 = λ fs. AreDistinct (names_of fs) in (
      each_of-map (λ other. other ≢ f.name.now) (λ g. g.name.now) files (recursion_from_All _ files (subst P e free)),
      subst Q e rest,
    )

pub free_by_distinct : (files : List FileSpec) (d : FileSpec) → 1 ≤ length files
    → AreDistinct (names_of files) → All (λ f. f.name.now ≢ (get_or files 0 d).name.now) (rest_of files)
free_by_distinct [] d h distinct = absurd (omega arith)
free_by_distinct (f ∷ files) d h distinct =
    let P : List FileSpec → Type 0 = λ fs. All (λ g. g.name.now ≢ f.name.now) fs in
    subst P (sym (rest_of-cons f files)) (All-from_recursion (λ g. g.name.now ≢ f.name.now) files
    (each-from_map (λ other. other ≢ f.name.now) (λ g. g.name.now) files distinct.0))

pub rest_by_distinct : (files : List FileSpec) → 1 ≤ length files → AreDistinct (names_of files)
    → AreDistinct (names_of (rest_of files))
rest_by_distinct [] h distinct = absurd (omega arith)
rest_by_distinct (f ∷ files) h distinct =
    let Q : List FileSpec → Type 0 = λ fs. AreDistinct (names_of fs) in
    subst Q (sym (rest_of-cons f files)) distinct.1

-- the names of the files that are asked for
pub names_of-files_of : (files : List FileSpec)
    → map (λ (f : TableFile). f.name) (files_asked_for files) ≡ names_of files
names_of-files_of [] = refl
names_of-files_of (f ∷ files) = ap (λ r. f.name.now ∷ r) (names_of-files_of files)

pub length-files_of : (files : List FileSpec) → length (files_asked_for files) ≡ length files
length-files_of files = length-map files
    (λ f. let r : TableFile = record { name = f.name.now; capacity = f.capacity } in r)

-- a table whose parts keep the rules
pub table_fits : (layout : Layout) (files : List FileSpec) (slots : ℕ) → 0 < length files → length files ≤ 64
    → All (λ f. IsName f.name.now × (0 < f.capacity) × IsLengthIn layout f.length f.capacity) files
    → AreDistinct (names_of files) → lengths_blocks layout < slots → slots ≤ max_slots layout
    → block_count (table_of layout files slots) < 2 ^ 32 → Fits (table_of layout files slots)
table_fits layout files slots some few each distinct some_slots few_slots blocks =
    let n = length-files_of files in
    record {
      some_files = omega arith;
      few_files = omega arith;
      each = each_of-map IsTableFile _ files
          (recursion_from_All (λ f. IsTableFile (record { name = f.name.now; capacity = f.capacity })) files
          (λ k d h. record { named = (each k d h).0; some = (each k d h).1 }));
      distinct = subst AreDistinct (sym (names_of-files_of files)) distinct;
      some_slots = some_slots;
      few_slots = few_slots;
      few_blocks = blocks;
    }

pub files_have : (layout : Layout) (files : List FileSpec)
    → All (λ f. IsName f.name.now × (0 < f.capacity) × IsLengthIn layout f.length f.capacity) files
    → HaveLengths layout files
files_have layout files each =
    recursion_from_All (λ f. IsLengthIn layout f.length f.capacity) files (λ k d h. (each k d h).2)

-- the parts of a table that keeps the rules
pub files_fit : (layout : Layout) (files : List FileSpec) (slots : ℕ) → HaveLengths layout files
    → Fits (table_of layout files slots)
    → All (λ f. IsName f.name.now × (0 < f.capacity) × IsLengthIn layout f.length f.capacity) files
files_fit layout files slots full fits k d h =
    let each = All-from_recursion (λ f. IsTableFile (record { name = f.name.now; capacity = f.capacity })) files
    (each-from_map IsTableFile _ files fits.each) k d h in
    (each.named, each.some, All-from_recursion (λ f. IsLengthIn layout f.length f.capacity) files full k d h)

pub names_fit : (layout : Layout) (files : List FileSpec) (slots : ℕ) → Fits (table_of layout files slots)
    → AreDistinct (names_of files)
names_fit layout files slots fits = subst AreDistinct (names_of-files_of files) fits.distinct

-- the files of a table, as they are asked for
files_asked : (files : List FileSpec) → files_asked_for files
    ≡ map (λ (f : AskedFile). let r : TableFile = record { name = f.name; capacity = f.capacity } in r) (asked_by files)
files_asked [] = refl
files_asked (f ∷ files) =
    ap (λ r. (let g : TableFile = record { name = f.name.now; capacity = f.capacity } in g) ∷ r) (files_asked files)

lengths_asked : (layout : Layout) (files : List FileSpec) → HaveLengths layout files
    → AllByRecursion (λ (f : AskedFile). IsLengthIn layout f.length f.capacity) (asked_by files)
lengths_asked layout [] have = tt
lengths_asked layout (f ∷ files) have = (have.0, lengths_asked layout files have.1)

asked_lengths : (layout : Layout) (files : List FileSpec)
    → AllByRecursion (λ (f : AskedFile). IsLengthIn layout f.length f.capacity) (asked_by files)
    → HaveLengths layout files
asked_lengths layout [] have = tt
asked_lengths layout (f ∷ files) have = (have.0, asked_lengths layout files have.1)

-- files that are as long as their capacities have lengths in every layout
pub full_have : (layout : Layout) (files : List FileSpec) → AreFull files → HaveLengths layout files
full_have layout [] full = tt
full_have layout (f ∷ files) full = ((omega (arith, full.0), λ none. full.0), full_have layout files full.1)

-- a table that keeps the rules is asked for
pub table_asked : (layout : Layout) (number : ℕ) (files : List FileSpec) (slots : ℕ) → number_of layout ≡ number
    → HaveLengths layout files → Fits (table_of layout files slots)
    → IsAsked number (asked_by files) slots (table_of layout files slots)
table_asked layout number files slots numbered full fits = record {
  layout_is = numbered;
  files_are = files_asked files;
  slots_are = refl;
  lengths = lengths_asked layout files full;
  fits = fits;
}

-- and no other
pub asked_table : (layout : Layout) (number : ℕ) (files : List FileSpec) (slots : ℕ) (v : SuperValue)
    → number_of layout ≡ number → IsAsked number (asked_by files) slots v
    → v ≡ table_of layout files slots
asked_table layout number files slots v numbered asked =
    let same = number_of-injective v.layout layout (asked.layout_is ∙ sym numbered) in
    ap (λ (l : Layout). let w : SuperValue = record { layout = l; files = v.files; slots = v.slots } in w) same
    ∙ ap (λ (fs : List TableFile). let w : SuperValue = record { layout = layout; files = fs; slots = v.slots } in w)
    (asked.files_are ∙ sym (files_asked files))
    ∙ ap (λ (n : ℕ). let w : SuperValue = record { layout = layout; files = files_asked_for files; slots = n } in w)
    asked.slots_are

-- so it keeps the rules
pub asked_fits : (layout : Layout) (number : ℕ) (files : List FileSpec) (slots : ℕ) (v : SuperValue)
    → number_of layout ≡ number → IsAsked number (asked_by files) slots v
    → HaveLengths layout files × Fits (table_of layout files slots)
asked_fits layout number files slots v numbered asked =
    let P : SuperValue → Type 0 = λ w. Fits w in
    let Q : Layout → Type 0 =
    λ l. AllByRecursion (λ (f : AskedFile). IsLengthIn l f.length f.capacity) (asked_by files) in
    let same = number_of-injective v.layout layout (asked.layout_is ∙ sym numbered) in (
      asked_lengths layout files (subst Q same asked.lengths),
      subst P (asked_table layout number files slots v numbered asked) asked.fits,
    )

-- at most one table is asked for
pub one_asked : (number : ℕ) (files : List AskedFile) (slots : ℕ) (v w : SuperValue) → IsAsked number files slots v
    → IsAsked number files slots w → v ≡ w
one_asked number files slots v w a b =
    ap (λ (l : Layout). let u : SuperValue = record { layout = l; files = v.files; slots = v.slots } in u)
    (number_of-injective v.layout w.layout (a.layout_is ∙ sym b.layout_is))
    ∙ ap (λ (fs : List TableFile). let u : SuperValue = record { layout = w.layout; files = fs; slots = v.slots } in u)
    (a.files_are ∙ sym b.files_are)
    ∙ ap (λ (n : ℕ). let u : SuperValue = record { layout = w.layout; files = w.files; slots = n } in u)
    (a.slots_are ∙ sym b.slots_are)
