-- The one super block that is asked for.
use Rattle.std.proofs.Common.{◌≡◌, ℕ, ◌+◌, ◌^◌, ◌<◌, ◌≤◌, List, [], ◌∷◌, length, map, All}
use Rattle.std.proofs.Common.{refl, sym, ap, subst, ◌∙◌, arith}
use Rattle.std.specs.List.{AllByRecursion}
use Rattle.std.proofs.lemmas.List.{length-map}
use Rattle.std.proofs.lemmas.List.Elements.{All-from_recursion, recursion_from_All}
use Rattle.page_entry.specs.declared.refusal.Refusal.{Refusal}
use Rattle.page_entry.specs.declared.refusal.Refusal.TheVariants.{BadShape, OutOfMemory}
use Rattle.volume_codec.specs.declared.file_spec.FileSpec.{FileSpec}
use Rattle.volume_codec.specs.declared.layout.Layout.{Layout}
use Rattle.volume_codec.specs.declared.layout.Layout.TheVariants.{One, Two, Three, Four}
use Rattle.volume_codec.specs.Files.{TableFile, AskedFile, asked_by}
use Rattle.volume_codec.specs.Layout.{number_of}
use Rattle.volume_codec.specs.Refusals.{RefusesTable}
use Rattle.volume_codec.specs.Super.{SuperValue, IsLengthIn, IsAsked, Fits, block_count}
use Rattle.log_codec.specs.declared.sealing.Sealing.{Sealing}
use Rattle.log_codec.specs.Log.{LogValue, IsLog}
use Rattle.log_volume.specs.Super.{LogSuperValue, table_of, log_of, key_of}
use Rattle.log_format.specs.Asked.{IsLogAsked, RefusesLogTable}
use Rattle.log_format.specs.inside.Full.{full_files, log_asked}

abbrev pub file_of : AskedFile → TableFile
file_of f = record { name = f.name; capacity = f.capacity }

same_rows : (files : List AskedFile) → map file_of (full_files files) ≡ map file_of files
same_rows [] = refl
same_rows (f ∷ files) = ap (λ (rest : List TableFile). file_of f ∷ rest) (same_rows files)

full_lengths : (files : List AskedFile)
    → AllByRecursion (λ f. IsLengthIn One f.length f.capacity) (full_files files)
full_lengths [] = tt
full_lengths (f ∷ files) = ((omega arith, λ none. refl), full_lengths files)

is_one : (layout : Layout) → number_of layout ≡ 1 → layout ≡ One
is_one One is = refl
is_one Two is = absurd (omega (arith, is))
is_one Three is = absurd (omega (arith, is))
is_one Four is = absurd (omega (arith, is))

module _ (sealing : Sealing) (files : List AskedFile) (ring : ℕ) where
  -- the table of layout 1 for these files at their capacities
  pub full_table : Fits (table_of (log_asked sealing files ring))
      → IsAsked 1 (full_files files) 1 (table_of (log_asked sealing files ring))
  full_table fits = record {
    layout_is = refl;
    files_are = sym (same_rows files);
    slots_are = refl;
    lengths = full_lengths files;
    fits = fits;
  }

  pub one_table : (v : SuperValue) → IsAsked 1 (full_files files) 1 v → v ≡ table_of (log_asked sealing files ring)
  one_table v asked =
      ap (λ (l : Layout). let u : SuperValue = record { layout = l; files = v.files; slots = v.slots } in u)
      (is_one v.layout asked.layout_is)
      ∙ ap (λ (fs : List TableFile). let u : SuperValue = record { layout = One; files = fs; slots = v.slots } in u)
      (asked.files_are ∙ same_rows files)
      ∙ ap (λ (n : ℕ). let u : SuperValue = record { layout = One; files = map file_of files; slots = n } in u)
      asked.slots_are

  pub one_asked : (v : LogSuperValue) → IsLogAsked sealing files ring v → v ≡ log_asked sealing files ring
  one_asked v asked =
      ap (λ (s : Sealing). let u : LogSuperValue = record { sealing = s; ring = v.ring; files = v.files } in u)
      asked.sealing_is
      ∙ ap (λ (n : ℕ). let u : LogSuperValue = record { sealing = sealing; ring = n; files = v.files } in u)
      asked.ring_is
      ∙ ap (λ (fs : List TableFile). let u : LogSuperValue = record { sealing = sealing; ring = ring; files = fs } in u)
      asked.files_are

  abbrev value : LogSuperValue
  value = log_asked sealing files ring

  -- the blocks of a table of layout 1, of the log and of the lengths
  pub log_is : (blocks : ℕ) → (v : SuperValue) × IsAsked 1 (full_files files) 1 v × (blocks ≡ block_count v)
      → (let g : LogValue = record { sealing = sealing; ring = ring; blocks = ring + blocks + 1 } in g) ≡ log_of value
  log_is blocks (v, asked, count) =
      let same : block_count v ≡ block_count (table_of value) = ap block_count (one_table v asked) in
      ap (λ (n : ℕ). let g : LogValue = record { sealing = sealing; ring = ring; blocks = n } in g)
      (omega (arith, count, same))

  pub is_asked : (v : SuperValue) → IsAsked 1 (full_files files) 1 v → AllByRecursion (λ f. f.length ≤ f.capacity) files
      → IsLog (log_of value) → key_of sealing < 2 ^ 64 → IsLogAsked sealing files ring value
  is_asked v asked room log small =
      let P : SuperValue → Type 0 = λ t. Fits t in
      record {
        sealing_is = refl;
        files_are = refl;
        ring_is = refl;
        lengths = room;
        fits = record { table = subst P (one_table v asked) asked.fits; log = log; small_key = small };
      }

  pub own_asked : (v : LogSuperValue) → IsLogAsked sealing files ring v → IsLogAsked sealing files ring value
  own_asked v asked =
      let P : LogSuperValue → Type 0 = λ u. IsLogAsked sealing files ring u in subst P (one_asked v asked) asked

  pub few_asked : (v : LogSuperValue) → IsLogAsked sealing files ring v → length files ≤ 64
  few_asked v asked =
      let count = ap length asked.files_are ∙ length-map files file_of in
      omega (arith, count, asked.fits.table.few_files)

  pub few_blocks_asked : (v : LogSuperValue) → IsLogAsked sealing files ring v → ring ≤ 2 ^ 24
  few_blocks_asked v asked = omega (arith, asked.ring_is, asked.fits.log.few_ring)

  -- what isn't asked of layout 1 isn't asked
  pub none_asked : ((v : SuperValue) → IsAsked 1 (full_files files) 1 v → ⊥) → (v : LogSuperValue)
      → IsLogAsked sealing files ring v → ⊥
  none_asked none v asked = none (table_of value) (full_table (own_asked v asked).fits.table)

  pub no_log : (blocks : ℕ) → (v : SuperValue) × IsAsked 1 (full_files files) 1 v × (blocks ≡ block_count v)
      → (IsLog (record { sealing = sealing; ring = ring; blocks = ring + blocks + 1 }) → ⊥)
      → (v : LogSuperValue) → IsLogAsked sealing files ring v → ⊥
  no_log blocks counted none v asked =
      let P : LogValue → Type 0 = λ g. IsLog g in
      none (subst P (sym (log_is blocks counted)) (own_asked v asked).fits.log)

  pub refused_table : (refusal : Refusal) → RefusesTable 1 (full_files files) 1 refusal
      → IsLogAsked sealing files ring value → RefusesLogTable sealing files ring refusal
  refused_table BadShape none asked = λ v other. none (table_of value) (full_table asked.fits.table)
  refused_table OutOfMemory some asked = (value, asked)
  refused_table _ none asked = absurd none

  pub found_is : (s : LogSuperValue) → (t : SuperValue) (g : LogValue) → IsAsked 1 (full_files files) 1 t
      → t ≡ table_of s → g ≡ log_of s → g ≡ log_of value → IsLogAsked sealing files ring value
      → IsLogAsked sealing files ring s
  found_is s t g asked table log own whole =
      let P : LogSuperValue → Type 0 = λ u. IsLogAsked sealing files ring u in
      let logs : log_of value ≡ log_of s = sym own ∙ log in
      let tables : table_of value ≡ table_of s = sym (one_table t asked) ∙ table in
      subst P
      (ap (λ (x : Sealing). let u : LogSuperValue = record { sealing = x; ring = ring; files = map file_of files } in u)
      (ap (λ (x : LogValue). x.sealing) logs)
      ∙ ap (λ (x : ℕ). let u : LogSuperValue = record { sealing = s.sealing; ring = x; files = map file_of files } in u)
      (ap (λ (x : LogValue). x.ring) logs)
      ∙ ap (λ (x : List TableFile).
      let u : LogSuperValue = record { sealing = s.sealing; ring = s.ring; files = x } in u)
      (ap (λ (x : SuperValue). x.files) tables)) whole

-- files that are asked for have room
pub room_of : (files : List FileSpec) → All (λ f. f.length ≤ f.capacity) files
    → AllByRecursion (λ f. f.length ≤ f.capacity) (asked_by files)
room_of files all = by files (recursion_from_All (λ f. f.length ≤ f.capacity) files all)
  where
    by : (fs : List FileSpec) → AllByRecursion (λ f. f.length ≤ f.capacity) fs
        → AllByRecursion (λ f. f.length ≤ f.capacity) (asked_by fs)
    by [] each = tt
    by (f ∷ fs) each = (each.0, by fs each.1)

pub room_for : (files : List FileSpec) → AllByRecursion (λ f. f.length ≤ f.capacity) (asked_by files)
    → All (λ f. f.length ≤ f.capacity) files
room_for files each = All-from_recursion (λ f. f.length ≤ f.capacity) files (by files each)
  where
    by : (fs : List FileSpec) → AllByRecursion (λ f. f.length ≤ f.capacity) (asked_by fs)
        → AllByRecursion (λ f. f.length ≤ f.capacity) fs
    by [] all = tt
    by (f ∷ fs) all = (all.0, by fs all.1)
