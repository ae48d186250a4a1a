-- Where files lie.
use Rattle.std.proofs.Common.{◌≡◌, ℕ, zero, suc, ◌+◌, ◌<◌, ◌≤◌, List, [], ◌∷◌, ◌++◌, length, take, map}
use Rattle.std.proofs.Common.{get_or, slice_get, slice_index, Some, ap, ◌∙◌, add-one, add_assoc, arith}
use Rattle.std.specs.List.{AllByRecursion}
use Rattle.volume_codec.specs.Files.{TableFile}
use Rattle.volume_codec.specs.Layout.{IsGeometry, IsHome, first_file_home}
use Rattle.volume_codec.specs.Super.{SuperValue, IsTableFile, Fits, pages_of, total_pages}
use Rattle.volume_codec.specs.Super.{first_home_of, block_count, geometry_of, capacities_in}
use Rattle.volume_codec.specs.inside.Tables.{homes_from}
use Rattle.volume_codec.proofs.Layouts.{first_home-le}

pub total_pages-append : (fs gs : List TableFile) → total_pages (fs ++ gs) ≡ total_pages fs + total_pages gs
total_pages-append [] gs = omega arith
total_pages-append (f ∷ fs) gs = let e = total_pages-append fs gs in omega arith

-- one file more
total_pages-take_suc : (fs : List TableFile) (i : ℕ) → i < length fs → total_pages (take (suc i) fs)
    ≡ total_pages (take i fs) + pages_of (slice_index (map (λ (f : TableFile). f.capacity) fs) i)
total_pages-take_suc [] i h = absurd (omega arith)
total_pages-take_suc (f ∷ fs) zero h = omega arith
total_pages-take_suc (f ∷ fs) (suc i) h = let e = total_pages-take_suc fs i (omega arith) in omega arith

pub total_pages-take_more : (fs : List TableFile) (i : ℕ) → i < length fs → total_pages (take (i + 1) fs)
    ≡ total_pages (take i fs) + pages_of (slice_index (map (λ (f : TableFile). f.capacity) fs) i)
total_pages-take_more fs i h = ap (λ k. total_pages (take k fs)) (add-one i) ∙ total_pages-take_suc fs i h

pub total_pages-take_le : (fs : List TableFile) (i : ℕ) → total_pages (take i fs) ≤ total_pages fs
total_pages-take_le fs zero = omega arith
total_pages-take_le [] (suc i) = omega arith
total_pages-take_le (f ∷ fs) (suc i) = let e = total_pages-take_le fs i in omega arith

-- every file ends within the volume
pub first_home_of-next : (v : SuperValue) (i : ℕ) → i < length v.files
    → first_home_of v (i + 1) ≡ first_home_of v i + pages_of (slice_index (capacities_in v) i)
first_home_of-next v i h = omega (arith, total_pages-take_more v.files i h)

pub first_home_of-le : (v : SuperValue) (i : ℕ) → first_home_of v i ≤ block_count v
first_home_of-le v i = omega (arith, total_pages-take_le v.files i)

pub pages_of-le : (v : SuperValue) (i : ℕ) → i < length v.files
    → pages_of (slice_index (capacities_in v) i) ≤ block_count v
pages_of-le v i h = let e = first_home_of-next v i h in omega (arith, first_home_of-le v (i + 1))

-- the file at a place
pub file_by_parts : (fs : List TableFile) (i : ℕ) (name : List ℕ) (n : ℕ) (d : TableFile)
    → slice_get (map (λ (f : TableFile). f.name) fs) i ≡ Some name
    → slice_get (map (λ (f : TableFile). f.capacity) fs) i ≡ Some n
    → get_or fs i d ≡ (let f : TableFile = record { name = name; capacity = n } in f)
file_by_parts [] i name n d e l = cc
file_by_parts (f ∷ fs) zero name n d e l =
    let named : f.name ≡ name = cc in
    let sized : f.capacity ≡ n = cc in
    ap (λ (x : List ℕ). let r : TableFile = record { name = x; capacity = f.capacity } in r) named
    ∙ ap (λ (y : ℕ). let r : TableFile = record { name = name; capacity = y } in r) sized
file_by_parts (f ∷ fs) (suc i) name n d e l = file_by_parts fs i name n d e l

-- each name fits its field
pub name_short : (fs : List TableFile) (i : ℕ) (name : List ℕ) → AllByRecursion IsTableFile fs
    → slice_get (map (λ (f : TableFile). f.name) fs) i ≡ Some name → length name ≤ 32
name_short [] i name each e = cc
name_short (f ∷ fs) zero name each e = let same : f.name ≡ name = cc in
    omega (arith, ap length same, each.0.named.short)
name_short (f ∷ fs) (suc i) name each e = name_short fs i name each.1 e

-- the first home blocks of files
pub homes_from-push : (home : ℕ) (fs : List TableFile) (f : TableFile)
    → homes_from home (fs ++ f ∷ []) ≡ homes_from home fs ++ (home + total_pages fs) ∷ []
homes_from-push home [] f = ap (λ k. k ∷ []) (omega arith)
homes_from-push home (g ∷ fs) f =
    ap (λ (r : List ℕ). home ∷ r) (homes_from-push (home + pages_of g.capacity) fs f)
    ∙ ap (λ k. home ∷ (homes_from (home + pages_of g.capacity) fs ++ k ∷ []))
    (add_assoc home (pages_of g.capacity) (total_pages fs))

pub homes_from-at : (home : ℕ) (fs : List TableFile) (i n : ℕ) → slice_get (homes_from home fs) i ≡ Some n
    → n ≡ home + total_pages (take i fs)
homes_from-at home [] i n e = cc
homes_from-at home (f ∷ fs) zero n e = let same : home ≡ n = cc in omega arith
homes_from-at home (f ∷ fs) (suc i) n e = let rest = homes_from-at (home + pages_of f.capacity) fs i n e in omega arith

-- a part of some files and the next of them
pub total_pages-push : (fs : List TableFile) (f : TableFile)
    → total_pages (fs ++ f ∷ []) ≡ total_pages fs + pages_of f.capacity
total_pages-push fs f = omega (arith, total_pages-append fs (f ∷ []))

-- a file has a home block
pages_of-some : (n : ℕ) → 0 < n → 0 < pages_of n
pages_of-some n h = omega arith

pub total_pages-some : (fs : List TableFile) → 0 < length fs → AllByRecursion IsTableFile fs → 0 < total_pages fs
total_pages-some [] h each = absurd (omega arith)
total_pages-some (f ∷ fs) h each = omega (arith, pages_of-some f.capacity each.0.some)

-- so a table that keeps the rules has a geometry
pub fits_geometry : (v : SuperValue) → Fits v → IsGeometry (geometry_of v)
fits_geometry v fits = record {
  some_slots = fits.some_slots;
  few_slots = fits.few_slots;
  some_homes = omega (arith, total_pages-some v.files fits.some_files fits.each);
  few_blocks = fits.few_blocks;
}

-- the blocks of the files are home blocks
pub file_block-home : (v : SuperValue) (b : ℕ) → first_file_home v.layout v.slots ≤ b → b < block_count v
    → IsHome (geometry_of v) b
file_block-home v b low high = record { low = omega (arith, first_home-le v.layout v.slots); high = high }
