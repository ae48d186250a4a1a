-- Contents that have the parts of files have these files.
use Rattle.std.proofs.Common.{◌≡◌, ℕ, zero, suc, ◌+◌, ◌-◌, ◌*◌, ◌<◌, ◌≤◌, List, [], ◌∷◌, ◌++◌, length, map, take}
use Rattle.std.proofs.Common.{get_or, slice_get, Some, refl, sym, ap, ◌∙◌, subst, inl, inr, arith, drop}
use Rattle.std.proofs.lemmas.Bool.{cases_lt}
use Rattle.std.proofs.lemmas.List.{take-append-le, take_all, length-take, length-map, append-nil, length-drop}
use Rattle.volume_codec.specs.Files.{File, TableFile}
use Rattle.volume_codec.specs.Layout.{first_file_home, block_at}
use Rattle.volume_codec.specs.Super.{pages_of, total_pages, SuperValue}
use Rattle.volume_codec.specs.Recovery.{blocks_from, files_from, files_in}
use Rattle.volume_codec.proofs.Public.{take-past, zeros-nil, blocks_from-device}
use Rattle.history.specs.History.{Memory, bytes_of_pages, files_from_memory, Event, file_bytes, memory_of, files_after}
use Rattle.history.specs.History.{after, lengths_of, lengths_after, page_of}
use Rattle.volume_codec.specs.Lengths.{lengths_in, AreLengths}
use Rattle.journal.specs.Pages.{home_of}
use Rattle.history.specs.inside.Contents.{HasParts, AreContentsOf}
use Rattle.volume_codec.specs.Text.{zeros}
use Rattle.history.specs.Later.{AreDurable}
use Rattle.history.proofs.FileBytes.{file_bytes-next, length-page_of}

-- ---- the bytes of one file

nothing : (r : ℕ) (xs ys : List ℕ) → r ≡ 0 → take r xs ≡ take r ys
nothing r xs ys e = subst (λ k. take k xs ≡ take k ys) (sym e) refl

-- the first page's block, where the file goes on after it
first_block : (r : ℕ) (block page : List ℕ) → 4096 < r → length page ≡ 4096 → take r block ≡ take r page → block ≡ page
first_block r block page lt size e =
    let whole : take r page ≡ page = take_all r page (omega arith) in
    let same : length (take r block) ≡ 4096 = ap length (e ∙ whole) ∙ size in
    sym (take_all r block (omega (arith, same, length-take r block))) ∙ e ∙ whole

-- where the parts of a file's pages are there, so are its first bytes
pub same_bytes : (contents pages : ℕ → List ℕ) (m n b q r : ℕ) → ((page : ℕ) → length (pages page) ≡ 4096) → ((page : ℕ)
    → 4096 * page < r → take (r - 4096 * page) (contents (b + page)) ≡ take (r - 4096 * page) (pages (q + page)))
    → r ≤ 4096 * m → r ≤ 4096 * n → take r (blocks_from pages q m) ≡ take r (blocks_from contents b n)
same_bytes contents pages zero n b q r whole parts le_m le_n =
    nothing r (blocks_from pages q zero) (blocks_from contents b n) (omega arith)
same_bytes contents pages (suc m) zero b q r whole parts le_m le_n =
    nothing r (blocks_from pages q (suc m)) (blocks_from contents b zero) (omega arith)
same_bytes contents pages (suc m) (suc n) b q r whole parts le_m le_n = elim (cases_lt 0 r) [
  | inr none ↦ nothing r (blocks_from pages q (suc m)) (blocks_from contents b (suc n)) (omega arith)
  | inl some ↦
      (let size = whole q in
      let first : take r (contents b) ≡ take r (pages q) =
      (let start : r - 4096 * 0 ≡ r = omega arith in
      let block : b + 0 ≡ b = omega arith in
      let page : q + 0 ≡ q = omega arith in
      sym (λ i. take (start i) (contents (block i))) ∙ parts 0 (omega arith)
      ∙ (λ i. take (start i) (pages (page i)))) in
      elim (cases_lt 4096 r) [
        | inr last ↦
            (let long : length (take r (contents b)) ≡ r = ap length first ∙ omega (arith, length-take r (pages q)) in
            take-append-le r (pages q) (blocks_from pages (q + 1) m) (omega arith) ∙ sym first
            ∙ sym (take-append-le r (contents b) (blocks_from contents (b + 1) n)
            (omega (arith, long, length-take r (contents b)))))
        | inl more ↦
            (let same : contents b ≡ pages q = first_block r (contents b) (pages q) more size first in
            let split : 4096 + (r - 4096) ≡ r = omega arith in
            let rest : take (r - 4096) (blocks_from pages (q + 1) m)
            ≡ take (r - 4096) (blocks_from contents (b + 1) n) =
            same_bytes contents pages m n (b + 1) (q + 1) (r - 4096) whole (next r b q parts)
            (omega arith) (omega arith) in
            sym (ap (λ k. take k (pages q ++ blocks_from pages (q + 1) m)) split)
            ∙ take-past (pages q) (blocks_from pages (q + 1) m) 4096 (r - 4096) size
            ∙ (λ i. sym same i ++ rest i)
            ∙ sym (take-past (contents b) (blocks_from contents (b + 1) n) 4096 (r - 4096) (ap length same ∙ size))
            ∙ ap (λ k. take k (contents b ++ blocks_from contents (b + 1) n)) split)
      ])
]
  where
    next : (r b q : ℕ) → ((page : ℕ) → 4096 * page < r
        → take (r - 4096 * page) (contents (b + page)) ≡ take (r - 4096 * page) (pages (q + page)))
        → (page : ℕ) → 4096 * page < r - 4096 → take (r - 4096 - 4096 * page) (contents (b + 1 + page))
        ≡ take (r - 4096 - 4096 * page) (pages (q + 1 + page))
    next r b q parts page lt =
        let left : r - 4096 * suc page ≡ r - 4096 - 4096 * page = omega arith in
        let block : b + suc page ≡ b + 1 + page = omega arith in
        let place : q + suc page ≡ q + 1 + page = omega arith in
        sym (λ i. take (left i) (contents (block i))) ∙ parts (suc page) (omega arith)
        ∙ (λ i. take (left i) (pages (place i)))

-- ---- all files

abbrev pub in_table : File → TableFile
in_table f = record { name = f.name; capacity = f.capacity }

-- the contents have the parts of these files with these lengths, of which the first has this number and begins at this
-- home block
pub record HasPartsFrom (contents : ℕ → List ℕ) (memory : Memory) (k b : ℕ) (fs : List File)
    (lengths : List ℕ) : Type 0 where
  pub parts : (i page : ℕ) → i < length fs → 4096 * page < get_or lengths i 0
      → take (get_or lengths i 0 - 4096 * page) (contents (b + total_pages (take i (map in_table fs)) + page))
      ≡ take (get_or lengths i 0 - 4096 * page) (memory (k + i) page)
  pub fits : (i n : ℕ) (f : TableFile) → slice_get (map in_table fs) i ≡ Some f → slice_get lengths i ≡ Some n
      → n ≤ f.capacity

pub same_files : (contents : ℕ → List ℕ) (memory : Memory) (k b : ℕ) (fs : List File) (lengths : List ℕ)
    → ((file page : ℕ) → length (memory file page) ≡ 4096) → HasPartsFrom contents memory k b fs lengths
    → files_from_memory k fs lengths memory ≡ files_from contents b (map in_table fs) lengths
same_files contents memory k b [] lengths whole are = refl
same_files contents memory k b (f ∷ fs) [] whole are = refl
same_files contents memory k b (f ∷ fs) (n ∷ lengths) whole are =
    let fits : n ≤ f.capacity = are.fits 0 n (in_table f) refl refl in
    let bytes : bytes_of_pages (memory k) n ≡ take n (blocks_from contents b (pages_of f.capacity)) =
    same_bytes contents (memory k) (pages_of n) (pages_of f.capacity) b 0 n (whole k) first (omega arith)
    (omega (arith, fits)) in
    let rest : files_from_memory (k + 1) fs lengths memory
    ≡ files_from contents (b + pages_of f.capacity) (map in_table fs) lengths =
    same_files contents memory (k + 1) (b + pages_of f.capacity) fs lengths whole
    (record { parts = later; fits = λ i m g file size. are.fits (suc i) m g file size }) in
    λ i. record { name = f.name; bytes = bytes i; capacity = f.capacity } ∷ rest i
  where
    first : (page : ℕ) → 4096 * page < n
        → take (n - 4096 * page) (contents (b + page)) ≡ take (n - 4096 * page) (memory k (0 + page))
    first page lt =
        let block : b + 0 + page ≡ b + page = omega arith in
        let file : k + 0 ≡ k = omega arith in
        let place : page ≡ 0 + page = omega arith in
        sym (ap (λ j. take (n - 4096 * page) (contents j)) block) ∙ are.parts 0 page (omega arith) lt
        ∙ (λ i. take (n - 4096 * page) (memory (file i) (place i)))

    later : (i page : ℕ) → i < length fs → 4096 * page < get_or lengths i 0
        → take (get_or lengths i 0 - 4096 * page) (contents (b + pages_of f.capacity + total_pages
        (take i (map in_table fs)) + page)) ≡ take (get_or lengths i 0 - 4096 * page) (memory (k + 1 + i) page)
    later i page lt inside =
        let block : b + (pages_of f.capacity + total_pages (take i (map in_table fs))) + page
        ≡ b + pages_of f.capacity + total_pages (take i (map in_table fs)) + page = omega arith in
        let file : k + suc i ≡ k + 1 + i = omega arith in
        sym (ap (λ j. take (get_or lengths i 0 - 4096 * page) (contents j)) block) ∙ are.parts (suc i) page
        (omega arith) inside ∙ ap (λ j. take (get_or lengths i 0 - 4096 * page) (memory j page)) file

-- ---- the files of a table

module _ (files : List File) (table : SuperValue) (named : map in_table files ≡ table.files) where
  parts_from : (contents : ℕ → List ℕ) (memory : Memory) (lengths : List ℕ) → AreLengths table lengths
      → HasParts table lengths contents memory
      → HasPartsFrom contents memory 0 (first_file_home table.layout table.slots) files lengths
  parts_from contents memory lengths within parts = record {
    parts = λ i page lt inside.
        let file : i ≡ 0 + i = omega arith in
        let home : home_of table (record { file = i; page = page })
        ≡ first_file_home table.layout table.slots + total_pages (take i (map in_table files)) + page =
        ap (λ (l : List TableFile). first_file_home table.layout table.slots + total_pages (take i l) + page)
        (sym named) in
        sym (ap (λ k. take (get_or lengths i 0 - 4096 * page) (contents k)) home) ∙ parts
        (record { file = i; page = page }) (omega (arith, lt, ap length named, length-map files in_table)) inside
        ∙ ap (λ k. take (get_or lengths i 0 - 4096 * page) (memory k page)) file;
    fits = λ i n f file size. within.within i n f (sym (ap (λ (l : List TableFile). slice_get l i) named) ∙ file) size;
  }

  -- contents that have the parts of a memory have its files
  pub files_have : (contents : ℕ → List ℕ) (memory : Memory) (lengths : List ℕ)
      → ((file page : ℕ) → length (memory file page) ≡ 4096) → AreLengths table lengths
      → lengths_in table contents ≡ lengths → HasParts table lengths contents memory
      → files_from_memory 0 files lengths memory ≡ files_in table contents
  files_have contents memory lengths whole within same parts =
      same_files contents memory 0 (first_file_home table.layout table.slots) files lengths whole
      (parts_from contents memory lengths within parts)
      ∙ ap (λ (l : List TableFile). files_from contents (first_file_home table.layout table.slots) l lengths) named
      ∙ ap (files_from contents (first_file_home table.layout table.slots) table.files) (sym same)

  -- so have contents after a prefix of a history
  pub prefix_has : (history : List Event) (contents : ℕ → List ℕ) (prefix : List Event)
      → AreContentsOf files history table contents prefix → files_after files prefix ≡ files_in table contents
  prefix_has history contents prefix are =
      files_have contents (after (memory_of files) prefix) (lengths_after (lengths_of files) prefix) are.whole
      (subst (AreLengths table) are.same_lengths are.fits.are) are.same_lengths are.parts

-- ---- files to which nothing was stored are as they were

-- a block of some bytes, and the same with zeros where they end
block_padded : (bytes : List ℕ) (page : ℕ) → 4096 * page < length bytes
    → take (length bytes - 4096 * page) (block_at bytes page) ≡ take (length bytes - 4096 * page) (page_of bytes page)
block_padded bytes page inside =
    let block = block_at bytes page in
    let left = length bytes - 4096 * page in
    let size = length-take 4096 (drop (4096 * page) bytes) in
    let after = length-drop (4096 * page) bytes in
    elim (cases_lt 4096 left) [
      | inl long ↦
          (let none : zeros (4096 - length block) ≡ [] =
          ap zeros (let zero : 4096 - length block ≡ 0 = omega (arith, size, after, long) in zero) ∙ zeros-nil in
          ap (take left) (sym (ap (λ more. block ++ more) none ∙ append-nil block)))
      | inr short ↦ sym (take-append-le left block (zeros (4096 - length block)) (omega (arith, size, after, short)))
    ]

-- the pages of some bytes have them
bytes_as_pages : (bytes : List ℕ) → bytes_of_pages (page_of bytes) (length bytes) ≡ bytes
bytes_as_pages bytes =
    let n = pages_of (length bytes) in
    let whole : (page : ℕ) → length (page_of bytes page) ≡ 4096 = λ page. length-page_of bytes page in
    let parts : (page : ℕ) → 4096 * page < length bytes → take (length bytes - 4096 * page) (block_at bytes (0 + page))
    ≡ take (length bytes - 4096 * page) (page_of bytes (0 + page)) =
    λ page inside. (let place : page ≡ 0 + page = omega arith in
    ap (λ (k : ℕ). take (length bytes - 4096 * page) (block_at bytes k)) (sym place) ∙ block_padded bytes page inside
    ∙ ap (λ (k : ℕ). take (length bytes - 4096 * page) (page_of bytes k)) place) in
    same_bytes (block_at bytes) (page_of bytes) n n 0 0 (length bytes) whole parts (omega arith) (omega arith)
    ∙ ap (take (length bytes)) (blocks_from-device bytes 0 n ∙ take_all (4096 * n) bytes (omega arith))
    ∙ take_all (length bytes) bytes (omega arith)

files_as_stored : (k : ℕ) (files : List File) (memory : Memory)
    → ((i page : ℕ) → memory (i + k) page ≡ page_of (file_bytes files i) page)
    → files_from_memory k files (lengths_of files) memory ≡ files
files_as_stored k [] memory same = refl
files_as_stored k (f ∷ files) memory same =
    let here : k ≡ 0 + k = omega arith in
    let first : (page : ℕ) → memory k page ≡ page_of f.bytes page =
    λ page. ap (λ j. memory j page) here ∙ same 0 page in
    let bytes : bytes_of_pages (memory k) (length f.bytes) ≡ f.bytes = ap (λ (pages : ℕ → List ℕ).
    bytes_of_pages pages (length f.bytes)) (λ i page. first page i) ∙ bytes_as_pages f.bytes in
    let next : (i page : ℕ) → memory (i + (k + 1)) page ≡ page_of (file_bytes files i) page =
    λ i page. (let place : i + (k + 1) ≡ suc i + k = omega arith in ap (λ j. memory j page) place ∙ same (suc i) page
    ∙ ap (λ bytes. page_of bytes page) (file_bytes-next f files i)) in
    let rest : files_from_memory (k + 1) files (lengths_of files) memory ≡ files =
    files_as_stored (k + 1) files memory next in
    λ i. record { name = f.name; bytes = bytes i; capacity = f.capacity } ∷ rest i

pub files_unchanged : (files : List File) → files_after files [] ≡ files
files_unchanged files = files_as_stored 0 files (memory_of files)
    (λ i page. let place : i + 0 ≡ i = omega arith in ap (λ j. memory_of files j page) place)

nothing_before : (prefix rest : List Event) → prefix ++ rest ≡ [] → prefix ≡ []
nothing_before [] rest none = refl
nothing_before (event ∷ prefix) rest none =
    absurd (let count : suc (length (prefix ++ rest)) ≡ 0 = ap length none in omega (arith, count))

pub found_unchanged : (files found : List File) → AreDurable files [] found → found ≡ files
found_unchanged files found durable = durable.files_are ∙ ap (files_after files)
    (nothing_before durable.prefix durable.durable.rest durable.durable.begins) ∙ files_unchanged files
