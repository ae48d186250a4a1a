-- The lengths of files: what contents say of them, and reading what was spelled.
use Rattle.std.proofs.Common.{◌≡◌, ◌≢◌, ℕ, zero, suc, ◌+◌, ◌<◌, ◌≤◌, ◌^◌, ◌==◌, ◌⊎◌, inl, inr}
use Rattle.std.proofs.Common.{Bool, true, false, cond, List, [], ◌∷◌, ◌++◌, length, take}
use Rattle.std.proofs.Common.{slice_get, slice_index, Some, map, refl, sym, ap, subst, ◌∙◌, arith}
use Rattle.std.specs.List.{AllByRecursion, flat_map}
use Rattle.std.proofs.lemmas.Bool.{cases_eq}
use Rattle.std.proofs.lemmas.Bool.Decides.{nat_tests}
use Rattle.std.proofs.lemmas.List.{length-map, take_more}
use Rattle.volume_codec.specs.declared.file_spec.FileSpec.{FileSpec}
use Rattle.volume_codec.specs.declared.layout.Layout.{Layout}
use Rattle.volume_codec.specs.Files.{TableFile, AskedFile, asked_by, lengths_asked}
use Rattle.volume_codec.specs.Layout.{IsHome, lengths_blocks, first_home}
use Rattle.volume_codec.specs.Text.{number_text, numbers_in}
use Rattle.volume_codec.specs.Super.{SuperValue, Fits, IsLengthIn, IsAsked, geometry_of, capacities_in}
use Rattle.volume_codec.specs.Lengths.{AreLengths, IsLengths, HasLengths, lengths_text, lengths_in}
use Rattle.volume_codec.proofs.Functional.{lengths_small, numbers_in-text}
use Rattle.volume_codec.proofs.ReadingLemmas.{length-numbers_in}

-- the block of the lengths, in a layout that has one, is a home block
pub lengths_block-home : (v : SuperValue) → 0 < lengths_blocks v.layout
    → IsHome (geometry_of v) (first_home v.layout v.slots)
lengths_block-home v some = record { low = omega arith; high = omega arith }

-- without one the lengths are the capacities
pub fixed_lengths : (v : SuperValue) (contents : ℕ → List ℕ) → lengths_blocks v.layout ≡ 0
    → lengths_in v contents ≡ capacities_in v
fixed_lengths v contents none =
    let test : (lengths_blocks v.layout == 0) ≡ true = grind (arith, nat_tests) in
    ap (λ (t : Bool). cond t (capacities_in v) (numbers_in 8 (length v.files) (contents (first_home v.layout v.slots))))
    test

-- and with one they are what it says
pub said_lengths : (v : SuperValue) (contents : ℕ → List ℕ) → 0 < lengths_blocks v.layout
    → lengths_in v contents ≡ numbers_in 8 (length v.files) (contents (first_home v.layout v.slots))
said_lengths v contents some =
    let test : (lengths_blocks v.layout == 0) ≡ false = grind (arith, nat_tests) in
    ap (λ (t : Bool). cond t (capacities_in v) (numbers_in 8 (length v.files) (contents (first_home v.layout v.slots))))
    test

-- there are as many lengths as files
pub length-lengths_in : (v : SuperValue) (contents : ℕ → List ℕ) → length (lengths_in v contents) ≡ length v.files
length-lengths_in v contents = by (cases_eq (lengths_blocks v.layout) 0)
  where
    by : (lengths_blocks v.layout ≡ 0) ⊎ (lengths_blocks v.layout ≢ 0) → length (lengths_in v contents) ≡ length v.files
    by (inl none) = ap length (fixed_lengths v contents none) ∙ length-map v.files (λ (f : TableFile). f.capacity)
    by (inr some) = ap length (said_lengths v contents (omega arith))
        ∙ length-numbers_in 8 (length v.files) (contents (first_home v.layout v.slots))

-- contents that agree on the block of the lengths have the same lengths
pub lengths_in-same : (v : SuperValue) (contents others : ℕ → List ℕ)
    → (0 < lengths_blocks v.layout → contents (first_home v.layout v.slots) ≡ others (first_home v.layout v.slots))
    → lengths_in v contents ≡ lengths_in v others
lengths_in-same v contents others same = by (cases_eq (lengths_blocks v.layout) 0)
  where
    by : (lengths_blocks v.layout ≡ 0) ⊎ (lengths_blocks v.layout ≢ 0) → lengths_in v contents ≡ lengths_in v others
    by (inl none) = fixed_lengths v contents none ∙ sym (fixed_lengths v others none)
    by (inr some) = ap (λ (block : List ℕ). cond (lengths_blocks v.layout == 0) (capacities_in v)
        (numbers_in 8 (length v.files) block)) (same (omega arith))

pub has_lengths-same : (v : SuperValue) (contents others : ℕ → List ℕ)
    → (0 < lengths_blocks v.layout → contents (first_home v.layout v.slots) ≡ others (first_home v.layout v.slots))
    → HasLengths v contents → HasLengths v others
has_lengths-same v contents others same has =
    let lengths = lengths_in-same v contents others same in
    let P : List ℕ → Type 0 = λ l. AreLengths v l in
    record {
      are = subst P lengths has.are;
      spelled = λ some. sym (same some) ∙ has.spelled some ∙ ap lengths_text lengths;
    }

-- and so do contents that agree on home blocks
pub same_lengths_block : (v : SuperValue) (contents others : ℕ → List ℕ)
    → ((b : ℕ) → IsHome (geometry_of v) b → contents b ≡ others b) → 0 < lengths_blocks v.layout
    → contents (first_home v.layout v.slots) ≡ others (first_home v.layout v.slots)
same_lengths_block v contents others same some = same (first_home v.layout v.slots) (lengths_block-home v some)

-- a length at its capacity keeps the rules
capacity_at : (fs : List TableFile) (i n : ℕ) (s : TableFile) → slice_get fs i ≡ Some s
    → slice_get (map (λ (f : TableFile). f.capacity) fs) i ≡ Some n → n ≡ s.capacity
capacity_at [] i n s e l = cc
capacity_at (f ∷ fs) zero n s e l = let file : f ≡ s = cc in let size : f.capacity ≡ n = cc in
    sym size ∙ ap (λ (x : TableFile). x.capacity) file
capacity_at (f ∷ fs) (suc i) n s e l = capacity_at fs i n s e l

pub capacities_are : (v : SuperValue) → AreLengths v (capacities_in v)
capacities_are v = record {
  count = length-map v.files (λ (f : TableFile). f.capacity);
  within = λ i n f file size. omega (arith, capacity_at v.files i n f file size);
}

-- so all contents have lengths where no block holds them
pub fixed_has_lengths : (v : SuperValue) (contents : ℕ → List ℕ) → lengths_blocks v.layout ≡ 0 → HasLengths v contents
fixed_has_lengths v contents none =
    let P : List ℕ → Type 0 = λ l. AreLengths v l in
    record {
      are = subst P (sym (fixed_lengths v contents none)) (capacities_are v);
      spelled = λ some. absurd (omega arith);
    }

-- no length is above its file's capacity
pub lengths_in-le : (v : SuperValue) (contents : ℕ → List ℕ) (i n : ℕ) (f : TableFile) → HasLengths v contents
    → slice_get v.files i ≡ Some f → slice_get (lengths_in v contents) i ≡ Some n → n ≤ f.capacity
lengths_in-le v contents i n f has file size = has.are.within i n f file size

-- so each has a spelling
each_small : (fs : List TableFile) (lengths : List ℕ) → AllByRecursion (λ f. f.capacity < 256 ^ 8) fs
    → length lengths ≡ length fs
    → ((i n : ℕ) (f : TableFile) → slice_get fs i ≡ Some f → slice_get lengths i ≡ Some n → n ≤ f.capacity)
    → AllByRecursion (λ n. n < 256 ^ 8) lengths
each_small [] [] small count within = tt
each_small [] (n ∷ ns) small count within = absurd (omega (arith, count))
each_small (f ∷ fs) [] small count within = tt
each_small (f ∷ fs) (n ∷ ns) small count within = (
  omega (arith, small.0, within 0 n f refl refl),
  each_small fs ns small.1 (omega (arith, count)) (λ i m g file size. within (suc i) m g file size),
)

-- lengths are read back
pub reads_lengths : (v : SuperValue) (lengths block : List ℕ) → Fits v → IsLengths v lengths block
    → numbers_in 8 (length v.files) block ≡ lengths
reads_lengths v lengths block fits is =
    let rest = lengths_text lengths in
    let small = each_small v.files lengths
    (lengths_small v.files (omega (arith, fits.few_blocks))) is.are.count is.are.within in
    ap (numbers_in 8 (length v.files)) is.spelled ∙ ap (λ n. numbers_in 8 n rest) (sym is.are.count)
    ∙ numbers_in-text 8 lengths _ small

-- so a block says at most one list of lengths
pub one_lengths : (v : SuperValue) (lengths others block : List ℕ) → Fits v → IsLengths v lengths block
    → IsLengths v others block → lengths ≡ others
one_lengths v lengths others block fits is is' =
    sym (reads_lengths v lengths block fits is) ∙ reads_lengths v others block fits is'

-- none of the first lengths is above its file's capacity
abbrev pub AreFirst : List TableFile → List ℕ → ℕ → Type 0
AreFirst fs lengths k = (i n : ℕ) (f : TableFile) → i < k → slice_get fs i ≡ Some f
    → slice_get lengths i ≡ Some n → n ≤ f.capacity

-- the file of a capacity
pub file_of_capacity : (fs : List TableFile) (i c : ℕ) → slice_get (map (λ (f : TableFile). f.capacity) fs) i ≡ Some c
    → (f : TableFile) × (slice_get fs i ≡ Some f) × (f.capacity ≡ c)
file_of_capacity [] i c e = cc
file_of_capacity (f ∷ fs) zero c e = (f, refl, cc)
file_of_capacity (f ∷ fs) (suc i) c e = file_of_capacity fs i c e

pub there_is : (xs : List ℕ) (i x : ℕ) → slice_get xs i ≡ Some x → i < length xs
there_is [] i x e = cc
there_is (y ∷ ys) zero x e = omega arith
there_is (y ∷ ys) (suc i) x e = omega (arith, there_is ys i x e)

pub index_is : (xs : List ℕ) (i x : ℕ) → slice_get xs i ≡ Some x → slice_index xs i ≡ x
index_is [] i x e = cc
index_is (y ∷ ys) zero x e = cc
index_is (y ∷ ys) (suc i) x e = index_is ys i x e

get_there : (xs : List ℕ) (i : ℕ) → i < length xs → slice_get xs i ≡ Some (slice_index xs i)
get_there [] i h = absurd (omega arith)
get_there (x ∷ xs) zero h = refl
get_there (x ∷ xs) (suc i) h = get_there xs i (omega arith)

-- one length more
pub first_more : (v : SuperValue) (lengths : List ℕ) (k c : ℕ) → AreFirst v.files lengths k
    → slice_get (capacities_in v) k ≡ Some c → slice_index lengths k ≤ c → AreFirst v.files lengths (k + 1)
first_more v lengths k c first sized le = λ i n f h file size. elim (cases_eq i k) [
  | inl same ↦
      let capacity = capacity_at v.files k c f (ap (λ j. slice_get v.files j) (sym same) ∙ file) sized in
      let length = index_is lengths i n size in
      let here = ap (slice_index lengths) same in
      omega (arith, le, capacity, length, here)
  | inr other ↦ first i n f (omega arith) file size
]

-- all of them
pub first_all : (v : SuperValue) (lengths : List ℕ) (k : ℕ) → length lengths ≡ length v.files → length lengths ≤ k
    → AreFirst v.files lengths k → AreLengths v lengths
first_all v lengths k count all first = record {
  count = count;
  within = λ i n f file size. first i n f (omega (arith, there_is lengths i n size)) file size;
}

-- one that is too high
pub too_high : (v : SuperValue) (lengths : List ℕ) (k c : ℕ) → k < length lengths
    → slice_get (capacities_in v) k ≡ Some c → c < slice_index lengths k → AreLengths v lengths → ⊥
too_high v lengths k c there sized high are =
    let f = file_of_capacity v.files k c sized in
    omega (arith, are.within k (slice_index lengths k) f.0 f.1 (get_there lengths k there), f.2)

-- one capacity more
pub capacity_pushed : (capacities done new : List ℕ) (i c : ℕ) → new ≡ done ++ c ∷ [] → done ≡ take i capacities
    → slice_get capacities i ≡ Some c → new ≡ take (i + 1) capacities
capacity_pushed capacities done new i c is was sized =
    is ∙ ap (λ (r : List ℕ). r ++ c ∷ []) was ∙ ap (λ k. take i capacities ++ k ∷ [])
    (sym (index_is capacities i c sized)) ∙ sym (take_more capacities i 0 (there_is capacities i c sized))

-- what a reader found is what the block says
pub found_lengths : (v : SuperValue) (found lengths block : List ℕ) (count : ℕ) → Fits v
    → found ≡ numbers_in 8 count block → count ≡ length v.files → IsLengths v lengths block → found ≡ lengths
found_lengths v found lengths block count fits is counted says =
    is ∙ ap (λ n. numbers_in 8 n block) counted ∙ reads_lengths v lengths block fits says

-- the lengths that are asked for, as they are spelled
abbrev pub asked_length_text : FileSpec → List ℕ
asked_length_text f = number_text 8 f.length

pub asked_text : (files : List FileSpec)
    → flat_map asked_length_text files ≡ flat_map (number_text 8) (lengths_asked (asked_by files))
asked_text [] = refl
asked_text (f ∷ files) = ap (λ (r : List ℕ). number_text 8 f.length ++ r) (asked_text files)

-- the file of the table that is asked for
abbrev pub table_file : AskedFile → TableFile
table_file f = record { name = f.name; capacity = f.capacity }

asked_within : (files : List AskedFile) → AllByRecursion (λ f. f.length ≤ f.capacity) files → (i n : ℕ) (t : TableFile)
    → slice_get (map table_file files) i ≡ Some t → slice_get (lengths_asked files) i ≡ Some n → n ≤ t.capacity
asked_within [] le i n t file size = cc
asked_within (f ∷ fs) le zero n t file size =
    let same : table_file f ≡ t = cc in
    let here : f.length ≡ n = cc in
    omega (arith, le.0, here, ap (λ (x : TableFile). x.capacity) same)
asked_within (f ∷ fs) le (suc i) n t file size = asked_within fs le.1 i n t file size

each_le : (layout : Layout) (files : List AskedFile) → AllByRecursion (λ f. IsLengthIn layout f.length f.capacity) files
    → AllByRecursion (λ f. f.length ≤ f.capacity) files
each_le layout [] each = tt
each_le layout (f ∷ fs) each = (each.0.0, each_le layout fs each.1)

pub asked_le : (layout slots : ℕ) (files : List AskedFile) (v : SuperValue) → IsAsked layout files slots v
    → AllByRecursion (λ f. f.length ≤ f.capacity) files
asked_le layout slots files v asked = each_le v.layout files asked.lengths

-- they are lengths
pub asked_are : (layout slots : ℕ) (files : List AskedFile) (v : SuperValue) → IsAsked layout files slots v
    → AreLengths v (lengths_asked files)
asked_are layout slots files v asked =
    let P : List TableFile → Type 0 = λ fs. (i n : ℕ) (t : TableFile) → slice_get fs i ≡ Some t
    → slice_get (lengths_asked files) i ≡ Some n → n ≤ t.capacity in
    record {
      count = length-map files (λ (f : AskedFile). f.length) ∙ sym (length-map files table_file)
          ∙ sym (ap length asked.files_are);
      within = subst P (sym asked.files_are) (asked_within files (asked_le layout slots files v asked));
    }

-- and the capacities where no block holds lengths
each_full : (layout : Layout) (files : List AskedFile) → lengths_blocks layout ≡ 0
    → AllByRecursion (λ f. IsLengthIn layout f.length f.capacity) files
    → map (λ (f : TableFile). f.capacity) (map table_file files) ≡ lengths_asked files
each_full layout [] none each = refl
each_full layout (f ∷ fs) none each = ap (λ k. k ∷ map (λ (f : TableFile). f.capacity) (map table_file fs))
    (sym (each.0.1 none)) ∙ ap (λ (r : List ℕ). f.length ∷ r) (each_full layout fs none each.1)

-- contents whose lengths block, where there is one, says the lengths that were asked for have them
pub asked_lengths_in : (layout slots : ℕ) (files : List AskedFile) (v : SuperValue) (contents : ℕ → List ℕ)
    → IsAsked layout files slots v
    → (0 < lengths_blocks v.layout → contents (first_home v.layout v.slots) ≡ lengths_text (lengths_asked files))
    → lengths_in v contents ≡ lengths_asked files
asked_lengths_in layout slots files v contents asked spelled = by (cases_eq (lengths_blocks v.layout) 0)
  where
    by : (lengths_blocks v.layout ≡ 0) ⊎ (lengths_blocks v.layout ≢ 0) → lengths_in v contents ≡ lengths_asked files
    by (inl none) = fixed_lengths v contents none ∙ ap (λ (fs : List TableFile). map (λ (f : TableFile). f.capacity) fs)
        asked.files_are ∙ each_full v.layout files none asked.lengths
    by (inr some) =
        let more : 0 < lengths_blocks v.layout = omega arith in
        said_lengths v contents more
        ∙ reads_lengths v (lengths_asked files) (contents (first_home v.layout v.slots)) asked.fits
        (record { are = asked_are layout slots files v asked; spelled = spelled more })

pub asked_has_lengths : (layout slots : ℕ) (files : List AskedFile) (v : SuperValue) (contents : ℕ → List ℕ)
    → IsAsked layout files slots v
    → (0 < lengths_blocks v.layout → contents (first_home v.layout v.slots) ≡ lengths_text (lengths_asked files))
    → HasLengths v contents
asked_has_lengths layout slots files v contents asked spelled =
    let same = asked_lengths_in layout slots files v contents asked spelled in
    let P : List ℕ → Type 0 = λ l. AreLengths v l in
    record {
      are = subst P (sym same) (asked_are layout slots files v asked);
      spelled = λ some. spelled some ∙ ap lengths_text (sym same);
    }
