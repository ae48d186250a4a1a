-- A page that begins before its file's end has a home block in the volume.
use Rattle.std.proofs.Common.{◌≡◌, ℕ, zero, suc, ◌+◌, ◌*◌, ◌/◌, ◌<◌, ◌≤◌, List, [], ◌∷◌, length, map, get_or, Some}
use Rattle.std.proofs.Common.{refl, ◌∙◌}
use Rattle.std.proofs.Common.{arith, set}
use Rattle.std.proofs.lemmas.List.{length-set}
use Rattle.std.specs.Prelude.{slice_get}
use Rattle.volume_codec.specs.Files.{TableFile}
use Rattle.volume_codec.specs.Super.{SuperValue, pages_of, block_count, first_home_of, capacities_in}
use Rattle.volume_codec.specs.Lengths.{AreLengths}
use Rattle.volume_codec.proofs.Public.{first_home_of-next, first_home_of-le}
use Rattle.history.proofs.Public.{total_pages-before}
use Rattle.std.proofs.Common.{inl, inr, ap}
use Rattle.std.proofs.lemmas.Bool.{cases_lt, cases_eq}
use Rattle.pager.specs.State.{IsBeforeEnd}

-- each length is within its file's capacity
lengths_fit : (fs : List TableFile) (lengths : List ℕ) → length lengths ≡ length fs
    → ((i n : ℕ) (f : TableFile) → slice_get fs i ≡ Some f → slice_get lengths i ≡ Some n → n ≤ f.capacity)
    → (file : ℕ) → get_or lengths file 0 ≤ get_or (map (λ (f : TableFile). f.capacity) fs) file 0
lengths_fit [] [] count within file = omega arith
lengths_fit [] (n ∷ lengths) count within file = absurd (omega (arith, count))
lengths_fit (f ∷ fs) [] count within file = absurd (omega (arith, count))
lengths_fit (f ∷ fs) (n ∷ lengths) count within zero = within 0 n f refl refl
lengths_fit (f ∷ fs) (n ∷ lengths) count within (suc file) =
    lengths_fit fs lengths (omega (arith, count)) (λ i m g at size. within (suc i) m g at size) file

pub length_fits : (v : SuperValue) (lengths : List ℕ) → AreLengths v lengths → (file : ℕ)
    → get_or lengths file 0 ≤ get_or (capacities_in v) file 0
length_fits v lengths are file = lengths_fit v.files lengths are.count are.within file

pub home_within : (v : SuperValue) (lengths : List ℕ) → AreLengths v lengths → (file page : ℕ)
    → file < length lengths → 4096 * page < get_or lengths file 0 → first_home_of v file + page < block_count v
home_within v lengths are file page there before =
    let fits = length_fits v lengths are file in
    let in_table : file < length v.files = omega (arith, are.count) in
    let ends = first_home_of-next v file in_table in
    let fits_pages : page < pages_of (get_or (capacities_in v) file 0) = omega (arith, fits) in
    omega (arith, ends, first_home_of-le v (file + 1), fits_pages)

-- a length within the file's capacity may be set
set_within : (fs : List TableFile) (lengths : List ℕ) (file to : ℕ)
    → to ≤ get_or (map (λ (f : TableFile). f.capacity) fs) file 0
    → ((i n : ℕ) (f : TableFile) → slice_get fs i ≡ Some f → slice_get lengths i ≡ Some n → n ≤ f.capacity)
    → (i n : ℕ) (f : TableFile) → slice_get fs i ≡ Some f → slice_get (set lengths file to) i ≡ Some n → n ≤ f.capacity
set_within [] lengths file to fits within i n f at size = absurd (cc)
set_within (g ∷ fs) [] file to fits within i n f at size = absurd (cc)
set_within (g ∷ fs) (m ∷ lengths) zero to fits within zero n f at size =
    let same : g ≡ f = cc in
    let is : to ≡ n = cc in
    omega (arith, fits, is, ap (λ (h : TableFile). h.capacity) same)
set_within (g ∷ fs) (m ∷ lengths) zero to fits within (suc i) n f at size = within (suc i) n f at size
set_within (g ∷ fs) (m ∷ lengths) (suc file) to fits within zero n f at size = within zero n f at size
set_within (g ∷ fs) (m ∷ lengths) (suc file) to fits within (suc i) n f at size =
    set_within fs lengths file to fits (λ j k h there long. within (suc j) k h there long) i n f at size

pub are_set : (v : SuperValue) (lengths : List ℕ) (file to : ℕ) → AreLengths v lengths
    → to ≤ get_or (capacities_in v) file 0 → AreLengths v (set lengths file to)
are_set v lengths file to are fits = record {
  count = length-set lengths file to ∙ are.count;
  within = set_within v.files lengths file to fits are.within;
}

-- a page that begins before its file's end is of no page past one
pub before_end : (v : SuperValue) (lengths : List ℕ) → AreLengths v lengths → (file page : ℕ)
    → file < length lengths → 4096 * page < get_or lengths file 0
    → IsBeforeEnd v lengths (first_home_of v file + page)
before_end v lengths are file page there before f past next =
    let fits = length_fits v lengths are file in
    let in_table : file < length v.files = omega (arith, there, are.count) in
    elim (cases_eq f file) [
      | inl same ↦ absurd (let start = ap (first_home_of v) same in
          let end = ap (λ i. get_or lengths i 0) same in omega (arith, past, start, end, before))
      | inr other ↦ elim (cases_lt f file) [
        | inl less ↦
            (let f_there : f < length v.files = omega (arith, less, in_table) in
            absurd (omega (
              arith,
              next,
              first_home_of-next v f f_there,
              total_pages-before v.files f file less f_there,
            )))
        | inr more ↦ absurd (let above : file < f = omega (arith, more, other) in omega (
          arith,
          past,
          total_pages-before v.files file f above in_table,
          fits,
          before,
        ))
      ]
    ]

-- where a file of some length ends
pub end_within : (v : SuperValue) (file end : ℕ) → file < length v.files → end ≤ get_or (capacities_in v) file 0
    → first_home_of v file + pages_of end ≤ block_count v
end_within v file end there fits =
    omega (arith, fits, first_home_of-next v file there, first_home_of-le v (file + 1))

pub last_within : (v : SuperValue) (file end : ℕ) → file < length v.files → end < get_or (capacities_in v) file 0
    → first_home_of v file + end / 4096 < block_count v
last_within v file end there fits =
    omega (arith, fits, first_home_of-next v file there, first_home_of-le v (file + 1))
