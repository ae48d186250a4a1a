-- What follows of the contents that a volume recovers to.
use Rattle.std.proofs.Common.{◌≡◌, ◌≢◌, ℕ, zero, suc, ◌+◌, ◌-◌, ◌*◌, ◌/◌, ◌%◌, ◌<◌, ◌≤◌, ◌⊎◌, inl}
use Rattle.std.proofs.Common.{inr, Bool, true, false, cond, ◌==◌, List, [], ◌∷◌, ◌++◌, length, take}
use Rattle.std.proofs.Common.{drop, get_or, slice_get, Some, refl, sym, ap, ◌∙◌, arith, length-append}
use Rattle.std.specs.List.{AllByRecursion}
use Rattle.std.proofs.lemmas.Bool.{cases_lt}
use Rattle.std.proofs.lemmas.Bool.Decides.{nat_tests, eqb_tells}
use Rattle.std.proofs.lemmas.List.{length-take-le, drop-drop, get_or-append_right, get_or_append_left}
use Rattle.std.proofs.Math.Seq.{take-add}
use Rattle.volume_codec.specs.Files.{File, TableFile}
use Rattle.volume_codec.specs.Layout.{IsHome, block_at, record_block, first_file_home}
use Rattle.volume_codec.specs.Text.{zeros}
use Rattle.volume_codec.specs.Super.{SuperValue, pages_of, total_pages, first_home_of, geometry_of}
use Rattle.volume_codec.specs.Descriptor.{RiseWithin}
use Rattle.volume_codec.specs.Recovery.{Batch, record_or, recovered_block, blocks_from, files_from, files_in}
use Rattle.volume_codec.specs.Lengths.{lengths_in}
use Rattle.volume_codec.proofs.Homes.{rising_at}
use Rattle.volume_codec.proofs.Lengths.{lengths_in-same, same_lengths_block}
use Rattle.volume_codec.proofs.Padding.{zeros-append, take-zeros, zeros-nil}
use Rattle.volume_codec.proofs.Places.{file_block-home}

-- blocks that agree give the same bytes
pub blocks_from-same : (f g : ℕ → List ℕ) (b n : ℕ) → ((i : ℕ) → b ≤ i → i < b + n → f i ≡ g i)
    → blocks_from f b n ≡ blocks_from g b n
blocks_from-same f g b zero h = refl
blocks_from-same f g b (suc n) h =
    let first = h b (omega arith) (omega arith) in
    let rest = blocks_from-same f g (b + 1) n (λ i low high. h i (omega arith) (omega arith)) in
    cc

-- blocks that agree give the same files
pub files_from-same : (f g : ℕ → List ℕ) (b : ℕ) (fs : List TableFile) (lengths : List ℕ)
    → ((i : ℕ) → b ≤ i → i < b + total_pages fs → f i ≡ g i) → files_from f b fs lengths ≡ files_from g b fs lengths
files_from-same f g b [] lengths h = refl
files_from-same f g b (s ∷ fs) [] h = refl
files_from-same f g b (s ∷ fs) (n ∷ lengths) h =
    let first = blocks_from-same f g b (pages_of s.capacity) (λ i low high. h i low (omega arith)) in
    let rest = files_from-same f g (b + pages_of s.capacity) fs lengths
    (λ i low high. h i (omega arith) (omega arith)) in
    cc

-- contents that agree on home blocks have the same files
pub files_in-same : (v : SuperValue) (contents others : ℕ → List ℕ)
    → ((b : ℕ) → IsHome (geometry_of v) b → contents b ≡ others b) → files_in v contents ≡ files_in v others
files_in-same v contents others h =
    files_from-same contents others (first_file_home v.layout v.slots) v.files (lengths_in v contents)
    (λ i low high. h i (file_block-home v i low high))
    ∙ ap (files_from others (first_file_home v.layout v.slots) v.files)
    (lengths_in-same v contents others (same_lengths_block v contents others h))

-- the file of a place begins after the pages of those before it
file_from-at : (f : ℕ → List ℕ) (b : ℕ) (fs : List TableFile) (lengths : List ℕ) (i n : ℕ) (s : TableFile)
    → slice_get fs i ≡ Some s → slice_get lengths i ≡ Some n
    → slice_get (files_from f b fs lengths) i ≡ Some (record {
      name = s.name;
      bytes = take n (blocks_from f (b + total_pages (take i fs)) (pages_of s.capacity));
      capacity = s.capacity;
    })
file_from-at f b [] lengths i n s e l = cc
file_from-at f b (t ∷ fs) [] i n s e l = cc
file_from-at f b (t ∷ fs) (m ∷ lengths) zero n s e l =
    let file : t ≡ s = cc in
    let size : m ≡ n = cc in
    ap (λ (x : TableFile). Some (let r : File = record {
      name = x.name;
      bytes = take m (blocks_from f b (pages_of x.capacity));
      capacity = x.capacity;
    } in r)) file
    ∙ ap (λ (k : ℕ). Some (let r : File = record {
      name = s.name;
      bytes = take k (blocks_from f b (pages_of s.capacity));
      capacity = s.capacity;
    } in r)) size
    ∙ ap (λ (k : ℕ). Some (let r : File = record {
      name = s.name;
      bytes = take n (blocks_from f k (pages_of s.capacity));
      capacity = s.capacity;
    } in r)) (omega arith)
file_from-at f b (t ∷ fs) (m ∷ lengths) (suc i) n s e l =
    file_from-at f (b + pages_of t.capacity) fs lengths i n s e l
    ∙ ap (λ (k : ℕ). Some (let r : File = record {
      name = s.name;
      bytes = take n (blocks_from f k (pages_of s.capacity));
      capacity = s.capacity;
    } in r)) (omega arith)

pub file_in-at : (v : SuperValue) (contents : ℕ → List ℕ) (i n : ℕ) (s : TableFile) → slice_get v.files i ≡ Some s
    → slice_get (lengths_in v contents) i ≡ Some n
    → slice_get (files_in v contents) i ≡ Some (record {
      name = s.name;
      bytes = take n (blocks_from contents (first_home_of v i) (pages_of s.capacity));
      capacity = s.capacity;
    })
file_in-at v contents i n s e l =
    file_from-at contents (first_file_home v.layout v.slots) v.files (lengths_in v contents) i n s e l

-- the blocks of a device one after another are a range of its bytes
pub blocks_from-device : (bytes : List ℕ) (b n : ℕ)
    → blocks_from (block_at bytes) b n ≡ take (4096 * n) (drop (4096 * b) bytes)
blocks_from-device bytes b zero = refl
blocks_from-device bytes b (suc n) =
    let there : 4096 * b + 4096 ≡ 4096 * (b + 1) = omega arith in
    let size : 4096 + 4096 * n ≡ 4096 * suc n = omega arith in
    ap (λ r. block_at bytes b ++ r) (blocks_from-device bytes (b + 1) n ∙ ap (λ k. take (4096 * n) (drop k bytes))
    (sym there) ∙ ap (take (4096 * n)) (sym (drop-drop 4096 (4096 * b) bytes)))
    ∙ sym (take-add 4096 (4096 * n) (drop (4096 * b) bytes)) ∙ ap (λ k. take k (drop (4096 * b) bytes)) size

-- as many bytes as the blocks have
pub length-blocks_from : (f : ℕ → List ℕ) (b n : ℕ) → ((i : ℕ) → b ≤ i → i < b + n → length (f i) ≡ 4096)
    → length (blocks_from f b n) ≡ 4096 * n
length-blocks_from f b zero h = refl
length-blocks_from f b (suc n) h =
    let first = h b (omega arith) (omega arith) in
    let rest = length-blocks_from f (b + 1) n (λ i low high. h i (omega arith) (omega arith)) in
    omega (arith, length-append (f b) (blocks_from f (b + 1) n))

-- so a file has its length
pub length-file : (f : ℕ → List ℕ) (b n m : ℕ) → ((i : ℕ) → b ≤ i → i < b + pages_of m → length (f i) ≡ 4096) → n ≤ m
    → length (take n (blocks_from f b (pages_of m))) ≡ n
length-file f b n m h le =
    length-take-le n (blocks_from f b (pages_of m)) (omega (arith, length-blocks_from f b (pages_of m) h))

-- a byte of several blocks
pub get_or-blocks_from : (f : ℕ → List ℕ) (b n k : ℕ) → ((i : ℕ) → b ≤ i → i < b + n → length (f i) ≡ 4096)
    → k < 4096 * n → get_or (blocks_from f b n) k 0 ≡ get_or (f (b + k / 4096)) (k % 4096) 0
get_or-blocks_from f b zero k h l = absurd (omega arith)
get_or-blocks_from f b (suc n) k h l = by (cases_lt k 4096)
    (λ high. get_or-blocks_from f (b + 1) n (k - 4096) (λ i low up. h i (omega arith) (omega arith)) (omega arith))
  where
    by : (k < 4096) ⊎ (4096 ≤ k) → (4096 ≤ k
        → get_or (blocks_from f (b + 1) n) (k - 4096) 0 ≡ get_or (f (b + 1 + (k - 4096) / 4096)) ((k - 4096) % 4096) 0)
        → get_or (f b ++ blocks_from f (b + 1) n) k 0 ≡ get_or (f (b + k / 4096)) (k % 4096) 0
    by (inl low) rest =
        let first : length (f b) ≡ 4096 = h b (omega arith) (omega arith) in
        let block : b ≡ b + k / 4096 = omega arith in
        let place : k ≡ k % 4096 = omega arith in
        get_or_append_left (f b) (blocks_from f (b + 1) n) 0 k (omega (arith, first)) ∙ ap (λ i. get_or (f i) k 0) block
        ∙ ap (λ i. get_or (f (b + k / 4096)) i 0) place
    by (inr high) rest =
        let first : length (f b) ≡ 4096 = h b (omega arith) (omega arith) in
        let block : b + 1 + (k - 4096) / 4096 ≡ b + k / 4096 = omega arith in
        let place : (k - 4096) % 4096 ≡ k % 4096 = omega arith in
        get_or-append_right (f b) (blocks_from f (b + 1) n) 4096 k 0 first high
        ∙ rest high ∙ ap (λ i. get_or (f i) ((k - 4096) % 4096) 0) block ∙ ap (λ i. get_or (f (b + k / 4096)) i 0) place

-- blocks of zeros
pub blocks_from-zeros : (f : ℕ → List ℕ) (b n : ℕ) → ((i : ℕ) → b ≤ i → i < b + n → f i ≡ zeros 4096)
    → blocks_from f b n ≡ zeros (4096 * n)
blocks_from-zeros f b zero h = sym zeros-nil
blocks_from-zeros f b (suc n) h =
    let first = h b (omega arith) (omega arith) in
    let rest = blocks_from-zeros f (b + 1) n (λ i low high. h i (omega arith) (omega arith)) in
    let size : 4096 + 4096 * n ≡ 4096 * suc n = omega arith in
    ap (λ r. r ++ blocks_from f (b + 1) n) first ∙ ap (λ r. zeros 4096 ++ r) rest
    ∙ zeros-append 4096 (4096 * n) ∙ ap zeros size

pub blank_file : (f : ℕ → List ℕ) (b n m : ℕ) → ((i : ℕ) → b ≤ i → i < b + pages_of m → f i ≡ zeros 4096) → n ≤ m
    → take n (blocks_from f b (pages_of m)) ≡ zeros n
blank_file f b n m h le =
    ap (take n) (blocks_from-zeros f b (pages_of m) h) ∙ take-zeros n (4096 * pages_of m) (omega arith)

-- a home block with a record is read there, and one without is read elsewhere
pub record_or-cases : (other records : ℕ) (homes : List ℕ) (b : ℕ)
    → ((i : ℕ) × (i < length homes) × (get_or homes i 0 ≡ b) × (record_or other records homes b ≡ records + i))
    ⊎ (AllByRecursion (λ home. home ≢ b) homes × (record_or other records homes b ≡ other))
record_or-cases other records [] b = inr (tt, refl)
record_or-cases other records (n ∷ ns) b = by (b == n) (eqb_tells b n) (record_or-cases other (records + 1) ns b)
  where
    by : (t : Bool) → ((t ≡ true) × (b ≡ n)) ⊎ ((t ≡ false) × (b ≢ n))
        → ((i : ℕ) × (i < length ns) × (get_or ns i 0 ≡ b) × (record_or other (records + 1) ns b ≡ records + 1 + i))
        ⊎ (AllByRecursion (λ home. home ≢ b) ns × (record_or other (records + 1) ns b ≡ other))
        → ((i : ℕ) × (i < length (n ∷ ns)) × (get_or (n ∷ ns) i 0 ≡ b)
        × (cond t records (record_or other (records + 1) ns b) ≡ records + i))
        ⊎ (AllByRecursion (λ home. home ≢ b) (n ∷ ns) × (cond t records (record_or other (records + 1) ns b) ≡ other))
    by true (inl same) rest = inl (0, omega arith, sym same.1, omega arith)
    by true (inr apart) rest = absurd (let e : true ≡ false = apart.0 in cc)
    by false (inl same) rest = absurd (let e : false ≡ true = same.0 in cc)
    by false (inr apart) (inl found) = inl (suc found.0, omega (arith, found.1), found.2, omega (arith, found.3))
    by false (inr apart) (inr none) = inr ((λ e. apart.1 (sym e), none.0), none.1)

-- the home block at a place has the record of that place
pub record_or-at : (other records low high : ℕ) (homes : List ℕ) (i : ℕ) → RiseWithin low high homes → i < length homes
    → record_or other records homes (get_or homes i 0) ≡ records + i
record_or-at other records low high [] i rise h = absurd (omega arith)
record_or-at other records low high (n ∷ ns) zero rise h =
    let here : (n == n) ≡ true = grind (arith, nat_tests) in
    ap (λ (t : Bool). cond t records (record_or other (records + 1) ns n)) here ∙ omega arith
record_or-at other records low high (n ∷ ns) (suc i) rise h =
    let above = rising_at (n + 1) high ns i rise.2 (omega arith) in
    let apart : (get_or ns i 0 == n) ≡ false = grind (arith, nat_tests, above.0) in
    ap (λ (t : Bool). cond t records (record_or other (records + 1) ns (get_or ns i 0))) apart
    ∙ record_or-at other (records + 1) (n + 1) high ns i rise.2 (omega arith) ∙ omega arith

-- a block that these homes don't have is read elsewhere
pub record_or-other : (other records : ℕ) (homes : List ℕ) (b : ℕ) → AllByRecursion (λ home. home ≢ b) homes
    → record_or other records homes b ≡ other
record_or-other other records [] b h = refl
record_or-other other records (n ∷ ns) b h =
    let apart : n ≢ b = h.0 in
    let test : (b == n) ≡ false = grind (arith, nat_tests) in
    ap (λ (t : Bool). cond t records (record_or other (records + 1) ns b)) test
    ∙ record_or-other other (records + 1) ns b h.1

-- record i of the newest batch stands for its home block
pub recovered_block-at : (slots low high : ℕ) (batch : Batch) (older : List Batch) (i : ℕ)
    → RiseWithin low high batch.homes → i < length batch.homes
    → recovered_block slots (batch ∷ older) (get_or batch.homes i 0) ≡ record_block slots batch.journal i
recovered_block-at slots low high batch older i rise h = record_or-at (recovered_block slots older
    (get_or batch.homes i 0)) (record_block slots batch.journal 0) low high batch.homes i rise h ∙ omega arith

pub recovered_block-other : (slots b : ℕ) (batch : Batch) (older : List Batch)
    → AllByRecursion (λ home. home ≢ b) batch.homes
    → recovered_block slots (batch ∷ older) b ≡ recovered_block slots older b
recovered_block-other slots b batch older h =
    record_or-other (recovered_block slots older b) (record_block slots batch.journal 0) batch.homes b h
