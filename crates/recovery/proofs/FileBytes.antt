-- Where the bytes of a file lie on a device.
use Rattle.std.proofs.Common.{◌≡◌, ◌<◌, ◌≤◌, ℕ, zero, suc, ◌+◌, ◌-◌, ◌*◌, List, [], ◌∷◌}
use Rattle.std.proofs.Common.{length, take, drop, map, ◌++◌, slice_get, slice_index, slice_range}
use Rattle.std.proofs.Common.{Some, refl, sym, ◌∙◌, ap, subst, arith, length-take, length-drop}
use Rattle.std.proofs.lemmas.List.{drop-drop, take-take, take_at, drop_at}
use Rattle.volume_codec.specs.Files.{File, TableFile}
use Rattle.volume_codec.specs.Layout.{block_at}
use Rattle.volume_codec.specs.Super.{SuperValue, pages_of, first_home_of, block_count}
use Rattle.volume_codec.specs.Lengths.{AreLengths, lengths_in}
use Rattle.volume_codec.specs.Recovery.{blocks_from, files_in}
use Rattle.volume_codec.proofs.Places.{first_home_of-next, first_home_of-le}
use Rattle.volume_codec.proofs.Recovered.{file_in-at, length-file, blocks_from-device}
use Rattle.recovery.specs.Volume.{VolumeState, files_of, bytes_of}
use Rattle.recovery.proofs.BlockRanges.{range-take}

-- the element at a place
pub some_at : {X : Type 0} (xs : List X) (i : ℕ) → i < length xs → (x : X) × (slice_get xs i ≡ Some x)
some_at [] i h = absurd (omega arith)
some_at (x ∷ xs) zero h = (x, refl)
some_at (x ∷ xs) (suc i) h = some_at xs i (omega arith)

index_at : (xs : List ℕ) (i : ℕ) → i < length xs → slice_get xs i ≡ Some (slice_index xs i)
index_at [] i h = absurd (omega arith)
index_at (x ∷ xs) zero h = refl
index_at (x ∷ xs) (suc i) h = index_at xs i (omega arith)

capacity_of : (fs : List TableFile) (i : ℕ) (f : TableFile) → slice_get fs i ≡ Some f
    → slice_index (map (λ (f : TableFile). f.capacity) fs) i ≡ f.capacity
capacity_of [] i f e = cc
capacity_of (g ∷ fs) zero f e = let same : g ≡ f = cc in ap (λ (x : TableFile). x.capacity) same
capacity_of (g ∷ fs) (suc i) f e = capacity_of fs i f e

bytes_at : (fs : List File) (i : ℕ) (f : File) → slice_get fs i ≡ Some f → bytes_of fs i ≡ f.bytes
bytes_at [] i f e = cc
bytes_at (g ∷ fs) zero f e = let same : g ≡ f = cc in ap (λ (x : File). x.bytes) same
bytes_at (g ∷ fs) (suc i) f e = bytes_at fs i f e

-- what is asked of one value is asked of an equal one
pub asked_within : {D : Type 0} (v w : VolumeState D) (file at n : ℕ) → v ≡ w → file < length w.table.files
    → at + n ≤ slice_index w.lengths file
    → (file < length v.table.files) × (at + n ≤ slice_index v.lengths file)
asked_within {D} v w file at n same there within =
    let P : VolumeState D → Type 0 = λ u. (file < length u.table.files) × (at + n ≤ slice_index u.lengths file) in
    subst P (sym same) (there, within)

-- a file ends before the next one
pub file_end : (table : SuperValue) (lengths : List ℕ) → AreLengths table lengths → (file : ℕ)
    → file < length table.files
    → 4096 * first_home_of table file + slice_index lengths file ≤ 4096 * first_home_of table (file + 1)
file_end table lengths are file there =
    let f = some_at table.files file there in
    let le = are.within file (slice_index lengths file) f.0 f.1 (index_at lengths file (omega (arith, are.count))) in
    omega (arith, first_home_of-next table file there, le, capacity_of table.files file f.0 f.1)

-- the bytes of a file, where they lie
pub file_bytes : (table : SuperValue) (lengths : List ℕ) → AreLengths table lengths → (bytes : List ℕ) (file : ℕ)
    → file < length table.files → lengths ≡ lengths_in table (block_at bytes)
    → bytes_of (files_of table bytes) file
    ≡ take (slice_index lengths file) (drop (4096 * first_home_of table file) bytes)
file_bytes table lengths are bytes file there same =
    let size = slice_index lengths file in
    let f = some_at table.files file there in
    let at_length = index_at lengths file (omega (arith, are.count)) in
    let le = are.within file size f.0 f.1 at_length in
    let found = file_in-at table (block_at bytes) file size f.0 f.1
    (ap (λ (l : List ℕ). slice_get l file) (sym same) ∙ at_length) in
    bytes_at (files_of table bytes) file _ found
    ∙ ap (take size) (blocks_from-device bytes (first_home_of table file) (pages_of f.0.capacity))
    ∙ take-take size (4096 * pages_of f.0.capacity) (drop (4096 * first_home_of table file) bytes) (omega (arith, le))

-- as many as its length
pub length_of_bytes : (table : SuperValue) (lengths : List ℕ) → AreLengths table lengths → (bytes : List ℕ) (file : ℕ)
    → file < length table.files → lengths ≡ lengths_in table (block_at bytes) → 4096 * block_count table ≤ length bytes
    → length (bytes_of (files_of table bytes) file) ≡ slice_index lengths file
length_of_bytes table lengths are bytes file there same long =
    let at = 4096 * first_home_of table file in
    let ends = file_end table lengths are file there in
    let last = first_home_of-le table (file + 1) in
    ap length (file_bytes table lengths are bytes file there same)
    ∙ omega (arith, length-take (slice_index lengths file) (drop at bytes), length-drop at bytes, ends, last, long)

module _ (table : SuperValue) (lengths : List ℕ) (are : AreLengths table lengths) (file at n : ℕ)
    (there : file < length table.files) (within : at + n ≤ slice_index lengths file) where
  -- a part of a file lies within the volume
  pub file_room : (size : ℕ) → 4096 * block_count table ≤ size → 4096 * first_home_of table file + at + n ≤ size
  file_room size long =
      let f = some_at table.files file there in
      let le = are.within file (slice_index lengths file) f.0 f.1 (index_at lengths file (omega (arith, are.count))) in
      let next = first_home_of-next table file there in
      let last = first_home_of-le table (file + 1) in
      omega (arith, next, last, le, capacity_of table.files file f.0 f.1)

  -- a read at the file's first home block gives a part of it
  pub read_part : (bytes : List ℕ) (home : ℕ) → home ≡ first_home_of table file
      → lengths ≡ lengths_in table (block_at bytes)
      → slice_range bytes (4096 * home + at) (4096 * home + at + n)
      ≡ slice_range (bytes_of (files_of table bytes) file) at (at + n)
  read_part bytes home is same =
      let size = slice_index lengths file in
      let part : 4096 * home + at + n - (4096 * home + at) ≡ n = omega arith in
      let rest : at + n - at ≡ n = omega arith in
      let whole : bytes_of (files_of table bytes) file ≡ take size (drop (4096 * home) bytes) =
      file_bytes table lengths are bytes file there same ∙ ap (λ h. take size (drop (4096 * h) bytes)) (sym is) in
      ap (λ k. take k (drop (4096 * home + at) bytes)) part
      ∙ ap (take n) (sym (drop-drop at (4096 * home) bytes))
      ∙ sym (range-take at n size (drop (4096 * home) bytes) within)
      ∙ ap (λ k. take k (drop at (take size (drop (4096 * home) bytes)))) (sym rest)
      ∙ ap (λ (l : List ℕ). slice_range l at (at + n)) (sym whole)

-- block p of blocks one after another
pub block_of : (contents : ℕ → List ℕ) (b n p : ℕ) → p < n
    → ((i : ℕ) → b ≤ i → i ≤ b + p → length (contents i) ≡ 4096)
    → take 4096 (drop (4096 * p) (blocks_from contents b n)) ≡ contents (b + p)
block_of contents b zero p below whole = absurd (omega arith)
block_of contents b (suc n) zero below whole =
    let here : b ≡ b + 0 = omega arith in
    take_at (contents b) (blocks_from contents (b + 1) n) 4096 (whole b (omega arith) (omega arith)) ∙ ap contents here
block_of contents b (suc n) (suc p) below whole =
    let rest = blocks_from contents (b + 1) n in
    let past : 4096 * suc p ≡ 4096 + 4096 * p = omega arith in
    let there : b + 1 + p ≡ b + suc p = omega arith in
    ap (λ k. take 4096 (drop k (contents b ++ rest))) past
    ∙ ap (take 4096) (sym (drop-drop (4096 * p) 4096 (contents b ++ rest)))
    ∙ ap (λ l. take 4096 (drop (4096 * p) l))
    (drop_at (contents b) rest 4096 (whole b (omega arith) (omega arith)))
    ∙ block_of contents (b + 1) n p (omega arith) (λ i low high. whole i (omega arith) (omega arith))
    ∙ ap contents there

-- a part of a page of a file, in contents: the page's block has it
pub part_in_block : (table : SuperValue) (lengths : List ℕ) → AreLengths table lengths → (contents : ℕ → List ℕ)
    (file page n : ℕ) → file < length table.files → lengths ≡ lengths_in table contents
    → 4096 * page + n ≤ slice_index lengths file → n ≤ 4096 → 0 < n
    → ((b : ℕ) → b < block_count table → length (contents b) ≡ 4096)
    → slice_range (bytes_of (files_in table contents) file) (4096 * page) (4096 * page + n)
    ≡ take n (contents (first_home_of table file + page))
part_in_block table lengths are contents file page n there same within few some whole =
    let at = 4096 * page in
    let size = slice_index lengths file in
    let f = some_at table.files file there in
    let at_length = index_at lengths file (omega (arith, are.count)) in
    let le = are.within file size f.0 f.1 at_length in
    let b = first_home_of table file in
    let blocks = blocks_from contents b (pages_of f.0.capacity) in
    let next = first_home_of-next table file there in
    let last = first_home_of-le table (file + 1) in
    let cap = capacity_of table.files file f.0 f.1 in
    let rest : at + n - at ≡ n = omega arith in
    let bytes : bytes_of (files_in table contents) file ≡ take size blocks =
    bytes_at (files_in table contents) file _ (file_in-at table contents file size f.0 f.1
    (ap (λ (l : List ℕ). slice_get l file) (sym same) ∙ at_length)) in
    let below : page < pages_of f.0.capacity = omega (arith, within, le, some) in
    ap (λ (l : List ℕ). slice_range l at (at + n)) bytes
    ∙ ap (λ k. take k (drop at (take size blocks))) rest
    ∙ range-take at n size blocks within
    ∙ sym (take-take n 4096 (drop at blocks) few)
    ∙ ap (take n) (block_of contents b (pages_of f.0.capacity) page below
    (λ i low high. whole i (omega (arith, high, below, next, last, cap))))

-- as many bytes as its length
pub length_of_contents : (table : SuperValue) (lengths : List ℕ) → AreLengths table lengths → (contents : ℕ → List ℕ)
    (file : ℕ) → file < length table.files → lengths ≡ lengths_in table contents
    → ((b : ℕ) → b < block_count table → length (contents b) ≡ 4096)
    → length (bytes_of (files_in table contents) file) ≡ slice_index lengths file
length_of_contents table lengths are contents file there same whole =
    let size = slice_index lengths file in
    let f = some_at table.files file there in
    let at_length = index_at lengths file (omega (arith, are.count)) in
    let le = are.within file size f.0 f.1 at_length in
    let b = first_home_of table file in
    let next = first_home_of-next table file there in
    let last = first_home_of-le table (file + 1) in
    let cap = capacity_of table.files file f.0 f.1 in
    ap length (bytes_at (files_in table contents) file _ (file_in-at table contents file size f.0 f.1
    (ap (λ (l : List ℕ). slice_get l file) (sym same) ∙ at_length)))
    ∙ length-file contents b size f.0.capacity (λ i low high. whole i (omega (arith, high, next, last, cap))) le
