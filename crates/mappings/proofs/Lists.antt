-- Lists of mappings in order, and what they map at one page.
use Rattle.std.proofs.Common.{◌≡◌, ℕ, zero, suc, ◌+◌, ◌-◌, ◌<◌, ◌≤◌, true, false, cond, ltb, leb}
use Rattle.std.proofs.Common.{if◌then◌else◌, List, [], ◌∷◌, length, get_or, take, drop, Option}
use Rattle.std.proofs.Common.{Some, None, IsSome, max, refl, sym, ◌∙◌, subst, inl, inr, arith}
use Rattle.std.specs.List.{insert}
use Rattle.std.specs.List.Sorted.{IsNonDecreasingBy, IsPartitionPoint}
use Rattle.std.specs.Ordering.{nat_cmp}
use Rattle.std.specs.Cmp.{nat_cmp_total}
use Rattle.std.specs.FinMap as fin_map
use Rattle.std.proofs.lemmas.Bool.{cases_lt}
use Rattle.std.proofs.lemmas.Bool.Decides.{nat_tests}
use Rattle.std.proofs.lemmas.List.{get_or_default}
use Rattle.mappings.specs.declared.place.Place.{Place}
use Rattle.mappings.specs.declared.mapping.Mapping.{Mapping}
use Rattle.mappings.specs.Places.{is_among, with_range, any_mapped}
use Rattle.mappings.specs.Judgement.{is_mappable}
use Rattle.mappings.specs.declared.page_range.PageRange.{PageRange}
use Rattle.mappings.specs.inside.Listed.{covers, place_in, places_of, IsMapping}
use Rattle.mappings.specs.inside.Listed.{IsOrdered, IsFirstAfter, IsGap, IsMeeting}
use Rattle.mappings.proofs.PlacesLaws.{get-with_range, Decides-any_in_range}

-- what a list of mappings maps at a page: by the first mapping that covers it
abbrev pub lookup : ℕ → List Mapping → Option Place
lookup q [] = None
lookup q (m ∷ ms) = cond (covers m q) (Some (place_in m q)) (lookup q ms)

-- the pages of a mapping, counted or up to its end
is_among-covers : (first end q : ℕ) → is_among first (end - first) q ≡ (if leb first q then ltb q end else false)
is_among-covers first end q = grind (arith, nat_tests)

-- the places of a list are what it maps at each page
pub get-places_of : (ms : List Mapping) (q : ℕ) → fin_map.get (places_of ms) q ≡ lookup q ms
unfolding places_of
get-places_of [] q = fin_map.get-empty nat_cmp q
get-places_of (m ∷ ms) q =
    get-with_range (places_of ms) m.first (m.end - m.first) m.place q
    ∙ rw (is_among-covers m.first m.end q, get-places_of ms q) (grind (arith, nat_tests))

-- each mapping of an ordered list has pages
pub mapping_at : (low : ℕ) (ms : List Mapping) → IsOrdered low ms → (i : ℕ) (d : Mapping) → i < length ms
    → IsMapping (get_or ms i d)
mapping_at low [] o i d h = absurd (omega arith)
mapping_at low (m ∷ ms) o zero d h = o.1
mapping_at low (m ∷ ms) o (suc i) d h = mapping_at m.end ms o.2 i d (omega arith)

-- no mapping of an ordered list begins below its bound
pub low_at : (low : ℕ) (ms : List Mapping) → IsOrdered low ms → (i : ℕ) (d : Mapping) → i < length ms
    → low ≤ (get_or ms i d).first
low_at low [] o i d h = absurd (omega arith)
low_at low (m ∷ ms) o zero d h = o.0
low_at low (m ∷ ms) o (suc i) d h =
    let pages = o.1.has_pages in
    let bound = o.0 in
    omega (arith, low_at m.end ms o.2 i d (omega arith))

-- a mapping ends before each later one begins
pub apart_at : (low : ℕ) (ms : List Mapping) → IsOrdered low ms → (i j : ℕ) (d : Mapping) → i < j → j < length ms
    → (get_or ms i d).end ≤ (get_or ms j d).first
apart_at low [] o i j d h k = absurd (omega arith)
apart_at low (m ∷ ms) o zero zero d h k = absurd (omega arith)
apart_at low (m ∷ ms) o zero (suc j) d h k = low_at m.end ms o.2 j d (omega arith)
apart_at low (m ∷ ms) o (suc i) zero d h k = absurd (omega arith)
apart_at low (m ∷ ms) o (suc i) (suc j) d h k = apart_at m.end ms o.2 i j d (omega arith) (omega arith)

-- nothing is mapped below the bound
pub lookup_below : (low : ℕ) (ms : List Mapping) → IsOrdered low ms → (q : ℕ) → q < low → lookup q ms ≡ None
lookup_below low [] o q h = refl
lookup_below low (m ∷ ms) o q h =
    let pages = o.1.has_pages in let bound = o.0 in
    let rest = lookup_below m.end ms o.2 q (omega arith) in
    grind (arith, nat_tests)

-- the first mapping that ends after a page, in the rest of a list
pub IsFirstAfter-tail : (m : Mapping) (ms : List Mapping) (q i : ℕ) → IsFirstAfter (m ∷ ms) q (suc i)
    → IsFirstAfter ms q i
IsFirstAfter-tail m ms q i f = record {
  within = omega (arith, f.within);
  before = λ j d h. f.before (suc j) d (omega arith);
  after = λ j d h k. f.after (suc j) d (omega arith) (omega arith);
}

-- a page is mapped by the first mapping that ends after it, if at all
pub lookup_at : (low : ℕ) (ms : List Mapping) → IsOrdered low ms
    → (q i : ℕ) (d : Mapping) → IsFirstAfter ms q i → i < length ms
    → lookup q ms ≡ cond (covers (get_or ms i d) q) (Some (place_in (get_or ms i d) q)) None
lookup_at low [] o q i d f h = absurd (omega arith)
lookup_at low (m ∷ ms) o q zero d f h =
    let rest = lookup_below m.end ms o.2 q (f.after 0 d (omega arith) (omega arith)) in
    rw rest refl
lookup_at low (m ∷ ms) o q (suc i) d f h =
    let past : m.end ≤ q = f.before 0 d (omega arith) in
    let rest = lookup_at m.end ms o.2 q i d (IsFirstAfter-tail m ms q i f) (omega arith) in
    let missed : covers m q ≡ false = grind (arith, nat_tests) in
    rw missed rest

-- past the last mapping nothing is mapped
pub lookup_past : (ms : List Mapping) (q i : ℕ) → IsFirstAfter ms q i → length ms ≤ i → lookup q ms ≡ None
lookup_past [] q i f h = refl
lookup_past (m ∷ ms) q zero f h = absurd (omega arith)
lookup_past (m ∷ ms) q (suc i) f h =
    let past : m.end ≤ q = f.before 0 m (omega arith) in
    let missed : covers m q ≡ false = grind (arith, nat_tests) in
    rw missed (lookup_past ms q i (IsFirstAfter-tail m ms q i f) (omega arith))

-- a later page has the same first mapping after it, if that one ends after it too
pub IsFirstAfter-later : (low : ℕ) (ms : List Mapping) → IsOrdered low ms → (p q i : ℕ)
    → IsFirstAfter ms p i → p ≤ q → ((d : Mapping) → i < length ms → q < (get_or ms i d).end)
    → IsFirstAfter ms q i
IsFirstAfter-later low ms o p q i f le here = record {
  within = f.within;
  before = λ j d h. omega (arith, f.before j d h);
  after = λ j d h k.
      elim (cases_lt i j) [
        | inl later ↦
            omega (arith, apart_at low ms o i j d later k, (mapping_at low ms o j d k).has_pages, here d (omega arith))
        | inr same ↦ subst (λ j. q < (get_or ms j d).end) {x = i} (omega arith) (here d (omega arith))
      ];
}

-- the ends of the mappings rise
pub ends_rise : (low : ℕ) (ms : List Mapping) → IsOrdered low ms → IsNonDecreasingBy (λ m. m.end) ms
ends_rise low ms o i j d le h =
    elim (cases_lt i j) [
      | inl less ↦ omega (arith, apart_at low ms o i j d less h, (mapping_at low ms o j d h).has_pages)
      | inr same ↦ subst (λ j. (get_or ms i d).end ≤ (get_or ms j d).end) {x = i} (omega arith) (omega arith)
    ]

-- what a search by the ends finds
pub IsFirstAfter-from_partition : (ms : List Mapping) (q i : ℕ) → i ≤ length ms
    → IsPartitionPoint (λ m. leb m.end q ≡ true) (λ m. leb m.end q ≡ false) ms i
    → IsFirstAfter ms q i
IsFirstAfter-from_partition ms q i within parted = record {
  within = within;
  before = λ j d h. let e = parted.0 j d (omega arith) h in grind (arith, nat_tests);
  after = λ j d h k. let e = parted.1 j d h k in grind (arith, nat_tests);
}

-- an ordered list starts no later than its first mapping
IsOrdered-from_first : (low b : ℕ) (ms : List Mapping) → IsOrdered low ms
    → ((d : Mapping) → 0 < length ms → b ≤ (get_or ms 0 d).first)
    → IsOrdered b ms
IsOrdered-from_first low b [] o h = tt
IsOrdered-from_first low b (m ∷ ms) o h = (h m (omega arith), o.1, o.2)

-- the gap, in the rest of a list
IsGap-tail : (m : Mapping) (ms : List Mapping) (first end i : ℕ) → IsGap (m ∷ ms) first end (suc i)
    → IsGap ms first end i
IsGap-tail m ms first end i gap =
    record { first_after = IsFirstAfter-tail m ms first i gap.first_after; free = λ d h. gap.free d (omega arith) }

module _ (new : Mapping) (pages : IsMapping new) where
  -- a list with the new mapping in its gap is in order
  pub IsOrdered-insert : (low : ℕ) (ms : List Mapping) (i : ℕ)
      → IsOrdered low ms → low ≤ new.first → IsGap ms new.first new.end i
      → IsOrdered low (insert ms i new)
  IsOrdered-insert low ms zero o le gap = (le, pages, IsOrdered-from_first low new.end ms o gap.free)
  IsOrdered-insert low [] (suc i) o le gap = (le, pages, tt)
  IsOrdered-insert low (m ∷ ms) (suc i) o le gap = (
    o.0,
    o.1,
    IsOrdered-insert m.end ms i o.2 (gap.first_after.before 0 new (omega arith))
        (IsGap-tail m ms new.first new.end i gap),
  )

  -- it maps the new mapping's pages, and every other page as before
  pub lookup-insert : (low : ℕ) (ms : List Mapping) (i : ℕ) → IsOrdered low ms → IsGap ms new.first new.end i → (q : ℕ)
      → lookup q (insert ms i new) ≡ cond (covers new q) (Some (place_in new q)) (lookup q ms)
  lookup-insert low ms zero o gap q = refl
  lookup-insert low [] (suc i) o gap q = refl
  lookup-insert low (m ∷ ms) (suc i) o gap q =
      let before : m.end ≤ new.first = gap.first_after.before 0 new (omega arith) in
      let rest = lookup-insert m.end ms i o.2 (IsGap-tail m ms new.first new.end i gap) q in
      let few = o.1.has_pages in let many = pages.has_pages in
      grind (arith, nat_tests)

-- the first of a range's pages that the mapping after its begin covers
pub lookup_overlap : (low : ℕ) (ms : List Mapping) → IsOrdered low ms → (first end i : ℕ) (d : Mapping)
    → IsFirstAfter ms first i → i < length ms → first < end → (get_or ms i d).first < end
    → (q : ℕ) × (first ≤ q) × (q < end) × IsSome (lookup q ms)
lookup_overlap low ms o first end i d f h some over =
    let m = get_or ms i d in
    let few = (mapping_at low ms o i d h).has_pages in
    let past = f.after i d (omega arith) h in
    let q = max first m.first in
    let ends_later : (e : Mapping) → i < length ms → q < (get_or ms i e).end =
    λ e h. subst (λ (m : Mapping). q < m.end) (get_or_default ms i d e h) (omega arith) in
    let after : IsFirstAfter ms q i = IsFirstAfter-later low ms o first q i f (omega arith) ends_later in
    let found : lookup q ms ≡ cond (covers m q) (Some (place_in m q)) None = lookup_at low ms o q i d after h in
    let there : covers m q ≡ true = grind (arith, nat_tests) in
    (q, omega arith, omega arith, rw (found, there) refl)

-- a page of the range is mapped
pub any_mapped_true : (ms : List Mapping) (first count : ℕ)
    → ((q : ℕ) × (first ≤ q) × (q < first + count) × IsSome (lookup q ms))
    → any_mapped (places_of ms) first count ≡ true
any_mapped_true ms first count w = (Decides-any_in_range (fin_map.contains_key (places_of ms)) first count).1
    (w.0, w.1, w.2, rw (get-places_of ms w.0) w.3)

-- a list with a new mapping in its gap maps the new pages too
pub places_of-insert : (new : Mapping) → IsMapping new → (low : ℕ) (ms : List Mapping) (i count : ℕ)
    → IsOrdered low ms → IsGap ms new.first new.end i → new.first + count ≡ new.end
    → places_of (insert ms i new) ≡ with_range (places_of ms) new.first count new.place
places_of-insert new pages low ms i count o gap e =
    fin_map.same_map nat_cmp_total fin_map.nat_cmp-IsAntisymmetric _ _ (λ q.
    let among : is_among new.first count q ≡ covers new q = grind (arith, nat_tests) in
    get-places_of (insert ms i new) q ∙ lookup-insert new pages low ms i o gap q
    ∙ sym (rw (get-with_range (places_of ms) new.first count new.place q, among, get-places_of ms q) refl))

-- a range that may be mapped makes a mapping
pub IsMapping-from_mappable : (range : PageRange) (place : Place) → is_mappable range place.page ≡ true
    → IsMapping (record { first = range.first; end = range.first + range.count; place = place })
IsMapping-from_mappable range place e = record {
  has_pages = grind (arith, nat_tests);
  below_end = grind (arith, nat_tests);
  in_file = grind (arith, nat_tests);
}

-- a lower bound is one too
pub IsOrdered-lower : (low b : ℕ) (ms : List Mapping) → IsOrdered low ms → b ≤ low → IsOrdered b ms
IsOrdered-lower low b [] o le = tt
IsOrdered-lower low b (m ∷ ms) o le = let bound = o.0 in (omega arith, o.1, o.2)

-- the rest of a list in order
pub IsOrdered-rest : (m : Mapping) (ms : List Mapping) → IsOrdered 0 (m ∷ ms) → IsOrdered 0 ms
IsOrdered-rest m ms o = IsOrdered-lower m.end 0 ms o.2 (omega arith)

-- some of the mappings of a list
pub IsOrdered-between : (low b from n : ℕ) (ms : List Mapping) → IsOrdered low ms
    → ((d : Mapping) → 0 < n → from < length ms → b ≤ (get_or ms from d).first)
    → IsOrdered b (take n (drop from ms))
IsOrdered-between low b zero zero ms o h = tt
IsOrdered-between low b zero (suc n) [] o h = tt
IsOrdered-between low b zero (suc n) (m ∷ ms) o h = (
  h m (omega arith) (omega arith),
  o.1,
  IsOrdered-between m.end m.end zero n ms o.2 (λ d some within. first_at m.end ms o.2 d within),
)
  where
    first_at : (low : ℕ) (ms : List Mapping) → IsOrdered low ms → (d : Mapping) → 0 < length ms
        → low ≤ (get_or ms 0 d).first
    first_at low [] o d h = absurd (omega arith)
    first_at low (m ∷ ms) o d h = o.0
IsOrdered-between low b (suc from) n [] o h = empty n
  where
    empty : (n : ℕ) → IsOrdered b (take n (drop (suc from) []))
    empty zero = tt
    empty (suc n) = tt
IsOrdered-between low b (suc from) n (m ∷ ms) o h =
    IsOrdered-between m.end b from n ms o.2 (λ d some within. h d some (omega arith))

-- what searches by the ends and by the first pages find
pub IsMeeting-from_searches : (ms : List Mapping) (first end from to n : ℕ)
    → IsFirstAfter ms first from → to ≤ length ms
    → IsPartitionPoint (λ m. ltb m.first end ≡ true) (λ m. ltb m.first end ≡ false) ms to → n ≡ max to from
    → IsMeeting ms first end from n
IsMeeting-from_searches ms first end from to n f within parted same = record {
  forward = omega arith;
  within = omega (arith, f.within);
  before = f.before;
  after = λ j d h k. let e = parted.1 j d (omega arith) k in grind (arith, nat_tests);
  ends = λ j d h k. f.after j d h (omega arith);
  begins = λ j d h k. let e = parted.0 j d (omega arith) (omega arith) in grind (arith, nat_tests);
}

-- the first pages of the mappings rise
pub firsts_rise : (low : ℕ) (ms : List Mapping) → IsOrdered low ms → IsNonDecreasingBy (λ m. m.first) ms
firsts_rise low ms o i j d le h =
    elim (cases_lt i j) [
      | inl less ↦ omega (arith, apart_at low ms o i j d less h, (mapping_at low ms o i d (omega arith)).has_pages)
      | inr same ↦ subst (λ j. (get_or ms i d).first ≤ (get_or ms j d).first) {x = i} (omega arith) (omega arith)
    ]
