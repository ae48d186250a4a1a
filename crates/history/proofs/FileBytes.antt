-- The bytes of files in the home blocks of a volume, and their pages.
use Rattle.std.proofs.Common.{ℕ, zero, suc, ◌≡◌, ◌-◌, ◌*◌, ◌<◌, eqb, List, [], ◌∷◌, ◌++◌, length, take, drop, map}
use Rattle.std.proofs.Common.{get_or, refl, sym, ap, ◌∙◌, subst, inl, inr, arith, ◌+◌, ◌≤◌}
use Rattle.std.proofs.lemmas.Bool.{cases_lt, cond-false, ne_eqb}
use Rattle.std.proofs.lemmas.List.{length-take, length-drop, take_all, take_at, drop_at, drop-drop, drop-take}
use Rattle.std.proofs.lemmas.List.{take-take}
use Rattle.std.proofs.Math.Seq.{take-append_seam}
use Rattle.volume_codec.specs.Files.{File, TableFile}
use Rattle.volume_codec.specs.Super.{pages_of, total_pages}
use Rattle.volume_codec.specs.Text.{zeros, padded}
use Rattle.volume_codec.proofs.Public.{length-padded, length-file}
use Rattle.history.specs.History.{file_bytes, page_of}
use Rattle.volume_codec.specs.Recovery.{files_from, blocks_from}
use Rattle.history.proofs.Places.{capacity_at}
use Rattle.history.proofs.Padding.{nothing_padded}

pub length-file_bytes : (files : List File) (file : ℕ)
    → get_or (map (λ (f : File). length f.bytes) files) file 0 ≡ length (file_bytes files file)
length-file_bytes [] file = refl
length-file_bytes (f ∷ fs) zero = refl
length-file_bytes (f ∷ fs) (suc file) =
    let less : suc file - 1 ≡ file = omega arith in
    length-file_bytes fs file ∙ ap (λ k. length (file_bytes fs k)) (sym less)
    ∙ sym (ap length (cond-false (eqb (suc file) 0) f.bytes (file_bytes fs (suc file - 1))
    (ne_eqb (suc file) 0 (λ e. absurd (omega arith)))))

pub length-page_of : (bytes : List ℕ) (page : ℕ) → length (page_of bytes page) ≡ 4096
length-page_of bytes page = length-padded 4096 (take 4096 (drop (4096 * page) bytes))
    (omega (arith, length-take 4096 (drop (4096 * page) bytes)))

-- a page has zeros past the end of its bytes
pub plain_page : (bytes : List ℕ) (page n : ℕ) → n ≡ length bytes
    → page_of bytes page ≡ padded 4096 (take (n - 4096 * page) (page_of bytes page))
plain_page bytes page n is =
    let rest = drop (4096 * page) bytes in
    let many : length rest ≡ n - 4096 * page = omega (arith, length-drop (4096 * page) bytes) in
    let whole : length (page_of bytes page) ≡ 4096 = length-page_of bytes page in
    elim (cases_lt (n - 4096 * page) 4096) [
      | inl short ↦
          let all : take 4096 rest ≡ rest = take_all 4096 rest (omega (arith, many, short)) in
          let seam : take (n - 4096 * page) (padded 4096 rest) ≡ rest =
          ap (λ k. take k (padded 4096 rest)) (sym many) ∙ take-append_seam rest (zeros (4096 - length rest)) in
          ap (padded 4096) all ∙ ap (padded 4096) (sym seam)
          ∙ ap (λ r. padded 4096 (take (n - 4096 * page) (padded 4096 r))) (sym all)
      | inr long ↦
          let all : take (n - 4096 * page) (page_of bytes page) ≡ page_of bytes page =
          take_all (n - 4096 * page) (page_of bytes page) (omega (arith, whole, long)) in
          sym (nothing_padded 4096 (page_of bytes page) whole) ∙ ap (padded 4096) (sym all)
    ]

-- ---- the files of a volume at rest are those of its table, with its lengths

pub named_from : (contents : ℕ → List ℕ) (b : ℕ) (fs : List TableFile) (lengths : List ℕ) → length lengths ≡ length fs
    → map (λ (f : File). let t : TableFile = record { name = f.name; capacity = f.capacity } in t)
    (files_from contents b fs lengths) ≡ fs
named_from contents b [] lengths size = refl
named_from contents b (f ∷ fs) [] size = absurd (omega (arith, size))
named_from contents b (f ∷ fs) (n ∷ lengths) size = ap (λ (rest : List TableFile). f ∷ rest)
    (named_from contents (b + pages_of f.capacity) fs lengths (omega (arith, size)))

pub lengths_from : (contents : ℕ → List ℕ) (b : ℕ) (fs : List TableFile) (lengths : List ℕ) → length lengths ≡ length fs
    → ((i : ℕ) → get_or lengths i 0 ≤ capacity_at fs i)
    → ((i : ℕ) → i < b + total_pages fs → length (contents i) ≡ 4096)
    → map (λ (f : File). length f.bytes) (files_from contents b fs lengths) ≡ lengths
lengths_from contents b [] [] size within whole = refl
lengths_from contents b [] (n ∷ lengths) size within whole = absurd (omega (arith, size))
lengths_from contents b (f ∷ fs) [] size within whole = absurd (omega (arith, size))
lengths_from contents b (f ∷ fs) (n ∷ lengths) size within whole =
    let fits : n ≤ f.capacity = within 0 in
    let first = length-file contents b n f.capacity (λ i low high. whole i (omega arith)) fits in
    let rest = lengths_from contents (b + pages_of f.capacity) fs lengths (omega (arith, size)) (λ i. within (suc i))
    (λ i high. whole i (omega arith)) in
    λ i. first i ∷ rest i

-- ---- the bytes of a file in the blocks of a volume

pub back : (i : ℕ) → suc i - 1 ≡ i
back i = omega arith

pub file_bytes-next : (f : File) (fs : List File) (i : ℕ) → file_bytes (f ∷ fs) (suc i) ≡ file_bytes fs i
file_bytes-next f fs i = cond-false (eqb (suc i) 0) f.bytes (file_bytes fs (suc i - 1))
    (ne_eqb (suc i) 0 (λ e. absurd (omega arith))) ∙ ap (file_bytes fs) (back i)

pub file_bytes-from : (contents : ℕ → List ℕ) (b : ℕ) (fs : List TableFile) (lengths : List ℕ) (i : ℕ) → i < length fs
    → length lengths ≡ length fs
    → file_bytes (files_from contents b fs lengths) i
    ≡ take (get_or lengths i 0) (blocks_from contents (b + total_pages (take i fs)) (pages_of (capacity_at fs i)))
file_bytes-from contents b [] lengths i there size = absurd (omega arith)
file_bytes-from contents b (f ∷ fs) [] i there size = absurd (omega arith)
file_bytes-from contents b (f ∷ fs) (n ∷ lengths) zero there size = let from : b ≡ b + 0 = omega arith in
    λ i. take n (blocks_from contents (from i) (pages_of f.capacity))
file_bytes-from contents b (f ∷ fs) (n ∷ lengths) (suc i) there size =
    let from : b + pages_of f.capacity + total_pages (take i fs)
    ≡ b + (pages_of f.capacity + total_pages (take i fs)) = omega arith in
    file_bytes-next (record {
      name = f.name;
      bytes = take n (blocks_from contents b (pages_of f.capacity));
      capacity = f.capacity;
    }) (files_from contents (b + pages_of f.capacity) fs lengths) i
    ∙ file_bytes-from contents (b + pages_of f.capacity) fs lengths i (omega arith) (omega arith)
    ∙ ap (λ k. take (get_or lengths i 0) (blocks_from contents k (pages_of (capacity_at fs i)))) from

pub drop-take-sub : (i n : ℕ) (xs : List ℕ) → i ≤ n → drop i (take n xs) ≡ take (n - i) (drop i xs)
drop-take-sub i n xs le =
    subst (λ k. drop i (take k xs) ≡ take (n - i) (drop i xs)) {x = i + (n - i)} (omega arith) (drop-take i (n - i) xs)

pub take_comm : (m n : ℕ) (xs : List ℕ) → take m (take n xs) ≡ take n (take m xs)
take_comm m n xs =
    elim (cases_lt m n) [
      | inl h ↦ take-take m n xs (omega arith) ∙ sym (take_all n (take m xs) (omega (arith, length-take m xs)))
      | inr h ↦ take_all m (take n xs) (omega (arith, length-take n xs)) ∙ sym (take-take n m xs h)
    ]

-- each block from b on below b + n has 4,096 bytes
abbrev pub AreBlocks : (ℕ → List ℕ) → ℕ → ℕ → Type 0
AreBlocks block b n = (i : ℕ) → b ≤ i → i < b + n → length (block i) ≡ 4096

pub drop-blocks_from : (block : ℕ → List ℕ) (b n k : ℕ) → AreBlocks block b n → k ≤ n
    → drop (4096 * k) (blocks_from block b n) ≡ blocks_from block (b + k) (n - k)
drop-blocks_from block b n zero are le = let from : b ≡ b + 0 = omega arith in let count : n ≡ n - 0 = omega arith in
    λ i. blocks_from block (from i) (count i)
drop-blocks_from block b zero (suc k) are le = absurd (omega arith)
drop-blocks_from block b (suc n) (suc k) are le =
    let first : length (block b) ≡ 4096 = are b (omega arith) (omega arith) in
    let rest : drop (4096 * k) (blocks_from block (b + 1) n) ≡ blocks_from block (b + 1 + k) (n - k) =
    drop-blocks_from block (b + 1) n k (λ i low high. are i (omega arith) (omega arith)) (omega arith) in
    let size : 4096 * suc k ≡ 4096 + 4096 * k = omega arith in
    let from : b + 1 + k ≡ b + suc k = omega arith in
    let count : n - k ≡ suc n - suc k = omega arith in
    ap (λ j. drop j (block b ++ blocks_from block (b + 1) n)) size
    ∙ sym (drop-drop (4096 * k) 4096 (block b ++ blocks_from block (b + 1) n))
    ∙ ap (drop (4096 * k)) (drop_at (block b) (blocks_from block (b + 1) n) 4096 first)
    ∙ rest ∙ (λ i. blocks_from block (from i) (count i))

-- one page of a file's bytes is the file's part of its block
pub page_in_blocks : (block : ℕ → List ℕ) (b n len page : ℕ) → AreBlocks block b n → page < n → 4096 * page ≤ len
    → take 4096 (drop (4096 * page) (take len (blocks_from block b n))) ≡ take (len - 4096 * page) (block (b + page))
page_in_blocks block b n len page are lt le =
    let size : length (block (b + page)) ≡ 4096 = are (b + page) (omega arith) (omega arith) in
    let left : n - page ≡ suc (n - page - 1) = omega arith in
    let there : drop (4096 * page) (blocks_from block b n) ≡ block (b + page) ++ blocks_from block (b + page + 1)
    (n - page - 1) = drop-blocks_from block b n page are (omega arith) ∙ ap (blocks_from block (b + page)) left in
    ap (take 4096) (drop-take-sub (4096 * page) len (blocks_from block b n) le)
    ∙ take_comm 4096 (len - 4096 * page) (drop (4096 * page) (blocks_from block b n))
    ∙ ap (λ (l : List ℕ). take (len - 4096 * page) (take 4096 l)) there
    ∙ ap (take (len - 4096 * page))
    (take_at (block (b + page)) (blocks_from block (b + page + 1) (n - page - 1)) 4096 size)
