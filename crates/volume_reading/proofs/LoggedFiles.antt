-- The files of a volume with a log that was read.
use Rattle.std.proofs.Common.{◌≡◌, ◌<◌, ◌≤◌, ℕ, zero, suc, ◌+◌, ◌-◌, ◌*◌, List, [], ◌∷◌, length}
use Rattle.std.proofs.Common.{map, take, drop, if◌then◌else◌}
use Rattle.std.proofs.Common.{slice_get, slice_index, Some, Bool, true, false, eqb, inl, inr, refl, sym, ◌∙◌, ap, subst}
use Rattle.std.proofs.Common.{arith, length-take, length-drop}
use Rattle.std.proofs.lemmas.Bool.{cases_lt}
use Rattle.std.proofs.lemmas.List.{take-take, take_all, drop-take}
use Rattle.std.proofs.lemmas.Nat.{mod_below}
use Rattle.volume_codec.specs.Files.{File, TableFile}
use Rattle.volume_codec.specs.Layout.{block_at}
use Rattle.volume_codec.specs.Super.{pages_of, total_pages, names_in, capacities_in}
use Rattle.volume_codec.specs.Lengths.{AreLengths}
use Rattle.volume_codec.specs.Recovery.{blocks_from, files_from}
use Rattle.volume_codec.proofs.Public.{length-file, length-block_at, total_pages-take_more, total_pages-take_le}
use Rattle.recovery.specs.Volume.{bytes_of}
use Rattle.recovery.proofs.Public.{block_of}
use Rattle.volume_reading.specs.Reading.{part_of}
use Rattle.log_codec.specs.Log.{ring_block, first_log_file_home}
use Rattle.log_codec.specs.Commit.{LogDescriptor}
use Rattle.log_codec.specs.Chain.{logged_or, newest_or, records_position, position_after}
use Rattle.log_volume.specs.Super.{table_of, log_of}
use Rattle.log_recovery.specs.Reading.{chain_of}
use Rattle.volume_reading.specs.declared.logged.LoggedVolume.{LoggedVolume}
use Rattle.volume_reading.specs.Logged.{IsLoggedVolume, IsSoundLogged, logged_contents, logged_home, logged_files}

-- as many files as the table has
files_many : (contents : ℕ → List ℕ) (b : ℕ) (fs : List TableFile) (ns : List ℕ) → length ns ≡ length fs
    → length (files_from contents b fs ns) ≡ length fs
files_many contents b [] ns count = refl
files_many contents b (f ∷ fs) [] count = absurd (omega (arith, count))
files_many contents b (f ∷ fs) (n ∷ ns) count =
    let rest = files_many contents (b + pages_of f.capacity) fs ns (omega (arith, count)) in
    omega (arith, rest)

-- a file has the name of the table
file_named : (contents : ℕ → List ℕ) (b : ℕ) (fs : List TableFile) (ns : List ℕ) (i : ℕ) (f : File)
    → slice_get (files_from contents b fs ns) i ≡ Some f
    → slice_get (map (λ (t : TableFile). t.name) fs) i ≡ Some f.name
file_named contents b [] ns i f at = cc
file_named contents b (t ∷ fs) [] i f at = cc
file_named contents b (t ∷ fs) (n ∷ ns) zero f at =
    let made : File = record {
      name = t.name;
      bytes = take n (blocks_from contents b (pages_of t.capacity));
      capacity = t.capacity;
    } in
    let same : made ≡ f = cc in
    ap (λ (x : File). Some x.name) same
file_named contents b (t ∷ fs) (n ∷ ns) (suc i) f at = file_named contents (b + pages_of t.capacity) fs ns i f at

-- the bytes of a file in its blocks
file_bytes : (contents : ℕ → List ℕ) (b : ℕ) (fs : List TableFile) (ns : List ℕ) (i : ℕ) → i < length fs
    → length ns ≡ length fs
    → bytes_of (files_from contents b fs ns) i ≡ take (slice_index ns i) (blocks_from contents
    (b + total_pages (take i fs)) (pages_of (slice_index (map (λ (t : TableFile). t.capacity) fs) i)))
file_bytes contents b [] ns i there count = absurd (omega (arith, there))
file_bytes contents b (t ∷ fs) [] i there count = absurd (omega (arith, count))
file_bytes contents b (t ∷ fs) (n ∷ ns) zero there count =
    let from : b ≡ b + 0 = omega arith in
    ap (λ k. take n (blocks_from contents k (pages_of t.capacity))) from
file_bytes contents b (t ∷ fs) (n ∷ ns) (suc i) there count =
    let from : b + pages_of t.capacity + total_pages (take i fs)
    ≡ b + (pages_of t.capacity + total_pages (take i fs)) = omega arith in
    file_bytes contents (b + pages_of t.capacity) fs ns i (omega (arith, there)) (omega (arith, count))
    ∙ ap (λ k. take (slice_index ns i) (blocks_from contents k
    (pages_of (slice_index (map (λ (t : TableFile). t.capacity) fs) i)))) from

-- both cuts of a list, in either order
cut_both : (m n : ℕ) (xs : List ℕ) → take m (take n xs) ≡ take n (take m xs)
cut_both m n xs = elim (cases_lt m n) [
  | inl less ↦
      take-take m n xs (omega (arith, less)) ∙ sym (take_all n (take m xs) (omega (arith, less, length-take m xs)))
  | inr more ↦
      take_all m (take n xs) (omega (arith, more, length-take n xs)) ∙ sym (take-take n m xs (omega (arith, more)))
]

-- a page of the first n bytes of blocks
page_in : (contents : ℕ → List ℕ) (b blocks n p : ℕ) → 4096 * p < n → p < blocks
    → ((i : ℕ) → b ≤ i → i < b + blocks → length (contents i) ≡ 4096)
    → part_of (take n (blocks_from contents b blocks)) p ≡ take (n - 4096 * p) (contents (b + p))
page_in contents b blocks n p within below whole =
    let at = 4096 * p in
    let xs = blocks_from contents b blocks in
    let split : n ≡ at + (n - at) = omega (arith, within) in
    ap (λ k. take 4096 (drop at (take k xs))) split
    ∙ ap (take 4096) (drop-take at (n - at) xs)
    ∙ cut_both 4096 (n - at) (drop at xs)
    ∙ ap (take (n - at))
    (block_of contents b blocks p below (λ i low high. whole i (omega (arith, low)) (omega (arith, high, below))))

-- the record of a home block lies in the volume
logged_below : (ring n other p : ℕ) (homes : List ℕ) (b : ℕ) → 0 < ring → 4 + ring ≤ n → other < n
    → logged_or ring other p homes b < n
logged_below ring n other p [] b some fits low = low
logged_below ring n other p (home ∷ homes) b some fits low =
    let rest = logged_below ring n other (p + 1) homes b some fits low in
    let here : ring_block ring p < n = omega (arith, mod_below p ring some, fits) in
    by_test (eqb b home) (ring_block ring p) (logged_or ring other (p + 1) homes b) n here rest
  where
    by_test : (test : Bool) (x y n : ℕ) → x < n → y < n → (if test then x else y) < n
    by_test true x y n low high = low
    by_test false x y n low high = high

newest_below : (ring n other p : ℕ) (ds : List LogDescriptor) (b : ℕ) → 0 < ring → 4 + ring ≤ n → other < n
    → newest_or ring other p ds b < n
newest_below ring n other p [] b some fits low = low
newest_below ring n other p (d ∷ ds) b some fits low =
    newest_below ring n (logged_or ring other (records_position p d) d.homes b) (position_after p d) ds b some fits
    (logged_below ring n other (records_position p d) d.homes b some fits low)

capacity_at : (fs : List TableFile) (i : ℕ) → i < length fs → (f : TableFile) × (slice_get fs i ≡ Some f)
    × (slice_index (map (λ (t : TableFile). t.capacity) fs) i ≡ f.capacity)
capacity_at [] i there = absurd (omega (arith, there))
capacity_at (f ∷ fs) zero there = (f, refl, refl)
capacity_at (f ∷ fs) (suc i) there = capacity_at fs i (omega (arith, there))

length_at : (ns : List ℕ) (i : ℕ) → i < length ns → slice_get ns i ≡ Some (slice_index ns i)
length_at [] i there = absurd (omega (arith, there))
length_at (n ∷ ns) zero there = refl
length_at (n ∷ ns) (suc i) there = length_at ns i (omega (arith, there))

module _ {Z : Type 0} (found : LoggedVolume Z) where
  -- a file isn't longer than its capacity
  pub length_within : AreLengths (table_of found.table) found.lengths.items → (file : ℕ)
      → file < length found.table.files
      → slice_index found.lengths.items file ≤ slice_index (capacities_in (table_of found.table)) file
  length_within are file there =
      let f = capacity_at found.table.files file there in
      let size = length_at found.lengths.items file (omega (arith, there, are.count)) in
      omega (arith, are.within file (slice_index found.lengths.items file) f.0 f.1 size, f.2)

  module _ (bytes : List ℕ) (is : IsLoggedVolume bytes found) where
    pub many_files : length (logged_files found bytes) ≡ length found.table.files
    many_files = files_many (logged_contents found bytes) (first_log_file_home found.table.ring) found.table.files
        found.lengths.items is.lengths_are.are.count

    pub name_of_file : (file : ℕ) (f : File) (name : List ℕ) → slice_get (logged_files found bytes) file ≡ Some f
        → slice_get (names_in (table_of found.table)) file ≡ Some name → f.name ≡ name
    name_of_file file f name at named =
        let same = file_named (logged_contents found bytes) (first_log_file_home found.table.ring) found.table.files
        found.lengths.items file f at in
        cc

    module _ (file : ℕ) (there : file < length found.table.files) where
      abbrev first : ℕ
      first = first_log_file_home found.table.ring + total_pages (take file found.table.files)

      abbrev pages : ℕ
      pages = pages_of (slice_index (capacities_in (table_of found.table)) file)

      -- its home blocks lie in the volume
      low_homes : first + pages ≤ (log_of found.table).blocks
      low_homes = omega (
        arith,
        total_pages-take_more found.table.files file there,
        total_pages-take_le found.table.files (file + 1),
      )

      -- so what they recover to are whole blocks
      whole_homes : (i : ℕ) → i < first + pages → length (logged_contents found bytes i) ≡ 4096
      whole_homes i low =
          let n = (log_of found.table).blocks in
          let log = is.super_block.fits.log in
          let below = newest_below found.table.ring n i found.log.start.position (chain_of found.log.commits.items) i
          (omega (arith, log.some_ring)) (omega (arith, log.some_homes)) (omega (arith, low, low_homes)) in
          length-block_at bytes _ (omega (arith, below, is.log.log.long))

      bytes_are : bytes_of (logged_files found bytes) file ≡ take (slice_index found.lengths.items file)
          (blocks_from (logged_contents found bytes) first pages)
      bytes_are = file_bytes (logged_contents found bytes) (first_log_file_home found.table.ring) found.table.files
          found.lengths.items file there is.lengths_are.are.count

      pub length_of_file : length (bytes_of (logged_files found bytes) file) ≡ slice_index found.lengths.items file
      length_of_file = ap length bytes_are
          ∙ length-file (logged_contents found bytes) first (slice_index found.lengths.items file)
          (slice_index (capacities_in (table_of found.table)) file) (λ i low high. whole_homes i high)
          (length_within is.lengths_are.are file there)

      -- a page of it is what its home block recovers to
      pub page_of_file : (page : ℕ) → 4096 * page < slice_index found.lengths.items file
          → part_of (bytes_of (logged_files found bytes) file) page ≡ take (slice_index found.lengths.items file
          - 4096 * page) (logged_contents found bytes (logged_home found.table file page))
      page_of_file page within =
          let fits = length_within is.lengths_are.are file there in
          ap (λ (l : List ℕ). part_of l page) bytes_are
          ∙ page_in (logged_contents found bytes) first pages (slice_index found.lengths.items file) page within
          (omega (arith, within, fits)) (λ i low high. whole_homes i high)
