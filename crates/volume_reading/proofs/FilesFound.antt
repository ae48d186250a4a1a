-- The files of a volume that was found by reading, and what is written of them.
use Rattle.std.proofs.Common.{◌≡◌, ◌<◌, ℕ, zero, suc, add-one, ◌+◌, ◌-◌, ◌*◌, ◌^◌, min, List, [], ◌∷◌}
use Rattle.std.proofs.Common.{◌++◌, length, map, take, drop, slice_get, slice_index, slice_range, Option, Some}
use Rattle.std.proofs.Common.{refl, sym, ◌∙◌, ap, subst, arith, append-nil}
use Rattle.std.proofs.lemmas.List.{length-map, take_min}
use Rattle.std.proofs.lemmas.Grind.{flat_map-append}
use Rattle.volume_codec.specs.Files.{File, TableFile}
use Rattle.volume_codec.specs.Layout.{block_at, first_file_home}
use Rattle.volume_codec.specs.Super.{pages_of, names_in, block_count, first_home_of}
use Rattle.volume_codec.specs.Lengths.{AreLengths, lengths_in}
use Rattle.volume_codec.specs.Recovery.{RecoversTo, contents_in, files_from, recovered_block}
use Rattle.recovery.specs.Volume.{bytes_of}
use Rattle.recovery.proofs.FileBytes.{file_room, length_of_contents, part_in_block}
use Rattle.recovery.proofs.Public.{length-contents_in}
use Rattle.std.specs.Io.KnownBytes.{Appends}
use Rattle.volume_reading.specs.Rows.{rows_text, row_count, file_listing, files_listing}
use Rattle.volume_reading.specs.Reading.{part_of}
use Rattle.volume_reading.specs.Recovered.{RecoveredState, IsRecovered, IsSound, recovered_files}
use Rattle.volume_reading.proofs.Appending.{appends_both}
use Rattle.volume_reading.proofs.PageText.{page_read}

-- what a device's bytes recover to are the files that were found
pub recovers_to : (volume : RecoveredState) (bytes : List ℕ) → IsRecovered volume bytes
    → RecoversTo bytes (recovered_files volume bytes)
recovers_to volume bytes is = record {
  table = volume.table;
  contents = contents_in volume.table.slots volume.batches bytes;
  recovers = record { batches = volume.batches; volume = is.holds; contents_are = λ b home. refl };
  lengths = is.found.fit;
  files_are = refl;
}

named_from : (contents : ℕ → List ℕ) (b : ℕ) (fs : List TableFile) (lengths : List ℕ) → length lengths ≡ length fs
    → map (λ (f : File). f.name) (files_from contents b fs lengths) ≡ map (λ (f : TableFile). f.name) fs
named_from contents b [] lengths count = refl
named_from contents b (f ∷ fs) [] count = absurd (omega (arith, count))
named_from contents b (f ∷ fs) (n ∷ ns) count =
    ap (λ rest. f.name ∷ rest) (named_from contents (b + pages_of f.capacity) fs ns (omega (arith, count)))

-- the files have the names of the table
pub names_of_files : (volume : RecoveredState) (bytes : List ℕ) → IsRecovered volume bytes
    → map (λ (f : File). f.name) (recovered_files volume bytes) ≡ names_in volume.table
names_of_files volume bytes is =
    let contents = contents_in volume.table.slots volume.batches bytes in
    named_from contents (first_file_home volume.table.layout volume.table.slots) volume.table.files
    (lengths_in volume.table contents) is.found.fit.are.count

-- the file at a place
pub file_at : (files : List File) (i : ℕ) (f : File) → slice_get files i ≡ Some f → bytes_of files i ≡ f.bytes
file_at [] i f e = cc
file_at (g ∷ fs) zero f e = let same : g ≡ f = cc in ap (λ (x : File). x.bytes) same
file_at (g ∷ fs) (suc i) f e = file_at fs i f e

name_at : (files : List File) (i : ℕ) (f : File) (name : List ℕ) → slice_get files i ≡ Some f
    → slice_get (map (λ (f : File). f.name) files) i ≡ Some name → name ≡ f.name
name_at [] i f name e named = cc
name_at (g ∷ fs) zero f name e named = let same : g ≡ f = cc in let is : g.name ≡ name = cc in
    sym is ∙ ap (λ (x : File). x.name) same
name_at (g ∷ fs) (suc i) f name e named = name_at fs i f name e named

pub name_of_file : (volume : RecoveredState) (bytes : List ℕ) (file : ℕ) (f : File) (name : List ℕ)
    → IsRecovered volume bytes → slice_get (recovered_files volume bytes) file ≡ Some f
    → slice_get (names_in volume.table) file ≡ Some name → name ≡ f.name
name_of_file volume bytes file f name is at named =
    name_at (recovered_files volume bytes) file f name at
    (ap (λ names. slice_get names file) (names_of_files volume bytes is) ∙ named)

taken_more : (files : List File) (i : ℕ) (f : File) → slice_get files i ≡ Some f
    → take (suc i) files ≡ take i files ++ f ∷ []
taken_more [] i f at = cc
taken_more (g ∷ fs) zero f at = let same : g ≡ f = cc in ap (λ x. x ∷ []) same
taken_more (g ∷ fs) (suc i) f at = ap (λ rest. g ∷ rest) (taken_more fs i f at)

-- one file more
pub file_more : (head : List ℕ → ℕ → List ℕ) (row : ℕ → List ℕ → List ℕ) (old mid new : Option (List ℕ))
    (files : List File) (i : ℕ) (f : File) → slice_get files i ≡ Some f
    → Appends old mid (files_listing head row (take i files)) → Appends mid new (file_listing head row f)
    → Appends old new (files_listing head row (take (i + 1) files))
file_more head row old mid new files i f at before this =
    let P : List ℕ → Type 0 = λ text. Appends old new text in
    let one = file_listing head row in
    let all = files_listing head row in
    let text : all (take i files) ++ one f ≡ all (take (i + 1) files) =
    ap (λ rest. all (take i files) ++ rest) (sym (append-nil (one f))) ∙ sym (flat_map-append one
    (take i files) (f ∷ [])) ∙ ap all (sym (ap (λ n. take n files) (add-one i) ∙ taken_more files i f at)) in
    subst P text (appends_both old mid new (all (take i files)) (one f) before this)

-- as many files as the table has
pub as_many_files : (volume : RecoveredState) (bytes : List ℕ) → IsRecovered volume bytes
    → length (recovered_files volume bytes) ≡ length volume.table.files
as_many_files volume bytes is =
    sym (length-map (recovered_files volume bytes) (λ (f : File). f.name)) ∙ ap length (names_of_files volume bytes is)
    ∙ length-map volume.table.files (λ (f : TableFile). f.name)

-- the head of a file and its rows
pub file_listing_is : (head : List ℕ → ℕ → List ℕ) (row : ℕ → List ℕ → List ℕ) (f : File) (name bytes : List ℕ) (n : ℕ)
    → name ≡ f.name → bytes ≡ f.bytes → length bytes ≡ n
    → head name n ++ rows_text row bytes (row_count n) ≡ file_listing head row f
file_listing_is head row f name bytes n named same long =
    ap (λ (s : List ℕ). head s n ++ rows_text row bytes (row_count n)) named
    ∙ ap (λ (k : ℕ). head f.name k ++ rows_text row bytes (row_count k)) (sym long)
    ∙ ap (λ (b : List ℕ). head f.name (length b) ++ rows_text row b (row_count (length b))) same

-- a page that a file's bytes reach into has a block of the volume, whose number has 4 bytes
pub page_within : (volume same : RecoveredState) (file page : ℕ) → volume ≡ same → IsSound volume
    → file < length same.table.files → 4096 * page < slice_index same.lengths file
    → (first_home_of volume.table file + page < block_count volume.table) × (block_count volume.table < 2 ^ 32)
page_within volume same file page is sound there within =
    let P : RecoveredState → Type 0 =
    λ v. (file < length v.table.files) × (4096 * page < slice_index v.lengths file) in
    let reach = subst P (sym is) (there, within) in
    let room = file_room volume.table volume.lengths sound.lengths file (4096 * page) 1 reach.0 (omega (arith, reach.1))
    (4096 * block_count volume.table) (omega arith) in
    (omega (arith, room), sound.fits.few_blocks)

-- the lengths that were found are ones that the volume may have
lengths_fit : (volume : RecoveredState) (bytes : List ℕ) → IsRecovered volume bytes
    → AreLengths volume.table volume.lengths
lengths_fit volume bytes is =
    let P : List ℕ → Type 0 = λ l. AreLengths volume.table l in
    subst P (sym is.found.are) is.found.fit.are

module _ (volume : RecoveredState) (bytes : List ℕ) (is : IsRecovered volume bytes) (file : ℕ)
    (there : file < length volume.table.files) where
  abbrev contents : ℕ → List ℕ
  contents b = contents_in volume.table.slots volume.batches bytes b

  -- the length of a file
  pub length_of_file : length (bytes_of (recovered_files volume bytes) file) ≡ slice_index volume.lengths file
  length_of_file =
      length_of_contents volume.table volume.lengths (lengths_fit volume bytes is) contents file there is.found.are
      (λ b. length-contents_in volume.table volume.batches bytes b is.holds)

  -- the block with the recovered bytes of a page begins with that page of the file
  pub page_of_file : (page block : ℕ) → 4096 * page < slice_index volume.lengths file
      → block ≡ recovered_block volume.table.slots volume.batches (first_home_of volume.table file + page)
      → part_of (bytes_of (recovered_files volume bytes) file) page
      ≡ take (slice_index volume.lengths file - 4096 * page) (block_at bytes block)
  page_of_file page block below at =
      let n = slice_index volume.lengths file in
      let part = min (n - 4096 * page) 4096 in
      let b = first_home_of volume.table file + page in
      let are = lengths_fit volume bytes is in
      let room = file_room volume.table volume.lengths are file (4096 * page) 1 there (omega (arith, below))
      (4096 * block_count volume.table) (omega arith) in
      let whole : length (contents b) ≡ 4096 =
      length-contents_in volume.table volume.batches bytes b is.holds (omega (arith, room)) in
      let few : part ≡ min (n - 4096 * page) (length (contents b)) = omega (arith, whole) in
      sym (page_read (bytes_of (recovered_files volume bytes) file) page n part length_of_file below refl)
      ∙ part_in_block volume.table volume.lengths are contents file page part there is.found.are
      (omega (arith, below)) (omega arith) (omega (arith, below))
      (λ b. length-contents_in volume.table volume.batches bytes b is.holds)
      ∙ ap (λ m. take m (contents b)) few
      ∙ take_min (n - 4096 * page) (contents b)
      ∙ ap (λ m. take (n - 4096 * page) (block_at bytes m)) (sym at)
