-- Where files lie in a volume.
use Rattle.std.proofs.Common.{ℕ, ◌+◌, ◌<◌, ◌≤◌, List, length, take, map, get_or, ap, arith}
use Rattle.std.proofs.lemmas.List.{take-take}
use Rattle.volume_codec.specs.Files.{TableFile}
use Rattle.volume_codec.specs.Super.{pages_of, total_pages}
use Rattle.volume_codec.proofs.Public.{total_pages-take_more, total_pages-take_le}

-- the capacity of the file with this number
abbrev pub capacity_at : List TableFile → ℕ → ℕ
capacity_at files i = get_or (map (λ (f : TableFile). f.capacity) files) i 0

-- the blocks of a file come before those of the next ones, and within the volume
pub total_pages-before : (files : List TableFile) (i j : ℕ) → i < j → i < length files
    → total_pages (take i files) + pages_of (capacity_at files i) ≤ total_pages (take j files)
total_pages-before files i j less there =
    let one = total_pages-take_more files i there in
    let two = total_pages-take_le (take j files) (i + 1) in
    let same = ap total_pages (take-take (i + 1) j files (omega arith)) in
    omega (arith, one, two, same)

pub total_pages-within : (files : List TableFile) (i : ℕ) → i < length files
    → total_pages (take i files) + pages_of (capacity_at files i) ≤ total_pages files
total_pages-within files i there = omega (arith, total_pages-take_more files i there, total_pages-take_le files (i + 1))
