-- What edits of a list of mappings leave at one page.
use Rattle.std.proofs.Common.{◌≡◌, ℕ, zero, suc, ◌+◌, ◌-◌, ◌^◌, ◌<◌, ◌≤◌, Bool, true, false, cond, ◌&&◌}
use Rattle.std.proofs.Common.{◌==◌, ltb, leb, if◌then◌else◌, List, [], ◌∷◌, length, map, filter, get_or}
use Rattle.std.proofs.Common.{set, Option, Some, None, refl, sym, ap, ◌∙◌, subst, inl, inr, ◌⊎◌, arith}
use Rattle.std.specs.List.{insert}
use Rattle.std.specs.Option.{option_map}
use Rattle.std.specs.FinMap as fin_map
use Rattle.std.specs.Cmp.{nat_cmp_total}
use Rattle.std.proofs.lemmas.Bool.{cases_lt, false≢true}
use Rattle.std.proofs.lemmas.Bool.Decides.{nat_tests}
use Rattle.std.proofs.lemmas.List.{length-set}
use Rattle.std.proofs.lemmas.List.Edits.{length-insert}
use Rattle.mappings.specs.declared.place.Place.{Place}
use Rattle.mappings.specs.declared.place.Rights.{Rights}
use Rattle.mappings.specs.declared.place.Rights.TheVariants.{Read, ReadWrite}
use Rattle.mappings.specs.declared.mapping.Mapping.{Mapping}
use Rattle.mappings.specs.Places.{Places, is_among, without_range, with_rights, same_rights, follows, goes_on, is_cut}
use Rattle.mappings.specs.inside.Listed.{covers, place_in, places_of, joins, Beside}
use Rattle.mappings.specs.inside.Listed.{Neighbours, IsMerged, IsOrdered, IsFirstAfter}
use Rattle.mappings.specs.inside.Edits.{below, from_page, split_at, end_splits, is_outside}
use Rattle.mappings.specs.inside.Edits.{with_rights_within, IsUncut, IsMergedBut, IsSplit}
use Rattle.mappings.proofs.PlacesLaws.{advanced-advanced, get-without_range, get-with_rights}
use Rattle.mappings.proofs.Lists.{lookup, get-places_of, lookup_below, IsFirstAfter-tail, IsOrdered-lower}

-- two lists that map the same have the same places
pub same_places : (ms ns : List Mapping) → ((q : ℕ) → lookup q ms ≡ lookup q ns) → places_of ms ≡ places_of ns
same_places ms ns same = fin_map.same_map nat_cmp_total fin_map.nat_cmp-IsAntisymmetric _ _
    (λ q. get-places_of ms q ∙ same q ∙ sym (get-places_of ns q))

-- mappings above a page are not cut there
uncut_above : (page low : ℕ) (ms : List Mapping) → IsOrdered low ms → page ≤ low → IsUncut page ms
uncut_above page low [] o le = tt
uncut_above page low (m ∷ ms) o le =
    let pages = o.1.has_pages in let bound = o.0 in
    (λ less. absurd (omega arith), uncut_above page m.end ms o.2 (omega arith))

-- a cut mapping is split, or the first one stays
split_cases : (page : ℕ) (m : Mapping) (ms : List Mapping) (P : List Mapping → Type 0)
    → (m.first < page → page < m.end → P (below m page ∷ (from_page m page ∷ ms)))
    → ((m.first < page → m.end ≤ page) → P (m ∷ split_at page ms))
    → P (split_at page (m ∷ ms))
split_cases page m ms P cut stays =
    elim (ltb m.first page && ltb page m.end) as (λ b. (ltb m.first page && ltb page m.end) ≡ b
    → P (cond b (below m page ∷ (from_page m page ∷ ms)) (m ∷ split_at page ms))) [
      | true ↦ λ e. cut (grind (arith, nat_tests)) (grind (arith, nat_tests))
      | false ↦ λ e. stays (λ less. grind (arith, nat_tests))
    ] refl

module _ (page : ℕ) where
  pub lookup-split_at : (q : ℕ) (ms : List Mapping) → lookup q (split_at page ms) ≡ lookup q ms
  lookup-split_at q [] = refl
  lookup-split_at q (m ∷ ms) =
      split_cases page m ms (λ l. lookup q l ≡ lookup q (m ∷ ms))
      (λ above below.
      let further : page ≤ q → place_in (from_page m page) q ≡ place_in m q =
      λ le. advanced-advanced m.place (page - m.first) (q - page) (q - m.first) (omega arith) in
      elim (cases_lt q page) [
        | inl less ↦ grind (arith, nat_tests)
        | inr more ↦ let same = further more in grind (arith, nat_tests)
      ])
      (λ stays. rw (lookup-split_at q ms) refl)

  pub IsOrdered-split_at : (low : ℕ) (ms : List Mapping) → IsOrdered low ms → IsOrdered low (split_at page ms)
  IsOrdered-split_at low [] o = tt
  IsOrdered-split_at low (m ∷ ms) o =
      let few = o.1.has_pages in let high = o.1.below_end in let file = o.1.in_file in
      split_cases page m ms (IsOrdered low)
      (λ above below. (
        o.0,
        record { has_pages = above; below_end = omega arith; in_file = omega arith },
        (omega arith, record { has_pages = below; below_end = high; in_file = omega arith }, o.2),
      ))
      (λ stays. (o.0, o.1, IsOrdered-split_at m.end ms o.2))

  -- the page is no cut any more
  pub IsUncut-split_at : (low : ℕ) (ms : List Mapping) → IsOrdered low ms → IsUncut page (split_at page ms)
  IsUncut-split_at low [] o = tt
  IsUncut-split_at low (m ∷ ms) o =
      split_cases page m ms (IsUncut page)
      (λ above below. (λ _. omega arith, (λ less. absurd (omega arith), uncut_above page m.end ms o.2 (omega arith))))
      (λ stays. (stays, IsUncut-split_at m.end ms o.2))

  -- no other page becomes one
  pub IsUncut-split_at_other : (p : ℕ) (ms : List Mapping) → IsUncut p ms → IsUncut p (split_at page ms)
  IsUncut-split_at_other p [] u = tt
  IsUncut-split_at_other p (m ∷ ms) u =
      let whole = u.0 in
      split_cases page m ms (IsUncut p)
      (λ above below. (λ less. omega (arith, whole), (λ less. omega (arith, whole), u.1)))
      (λ stays. (u.0, IsUncut-split_at_other p ms u.1))

  -- where the mapping before the page ends before it, nothing is split
  pub split_at_above : (low : ℕ) (ms : List Mapping) → IsOrdered low ms → page ≤ low → split_at page ms ≡ ms
  split_at_above low [] o le = refl
  split_at_above low (m ∷ ms) o le =
      let few = o.1.has_pages in let bound = o.0 in
      let apart : (ltb m.first page && ltb page m.end) ≡ false = grind (arith, nat_tests) in
      rw (apart, split_at_above m.end ms o.2 (omega arith)) refl

  -- the first mapping that ends after the page is the one that is split, by a write and an insert
  pub split_at-insert : (low : ℕ) (ms : List Mapping) (i : ℕ) (whole : Mapping) → IsOrdered low ms
      → IsFirstAfter ms page i → i < length ms → get_or ms i whole ≡ whole → whole.first < page
      → insert (set ms i (below whole page)) (suc i) (from_page whole page) ≡ split_at page ms
  split_at-insert low [] i whole o f h e less = absurd (omega arith)
  split_at-insert low (m ∷ ms) zero whole o f h e less =
      let after : page < m.end = f.after 0 m (omega arith) (omega arith) in
      let before : m.first < page = subst (λ (n : Mapping). n.first < page) (sym e) less in
      let cut : (ltb m.first page && ltb page m.end) ≡ true = grind (arith, nat_tests) in
      rw cut (ap (λ (n : Mapping). below n page ∷ (from_page n page ∷ ms)) (sym e))
  split_at-insert low (m ∷ ms) (suc i) whole o f h e less =
      let past : m.end ≤ page = f.before 0 m (omega arith) in
      let apart : (ltb m.first page && ltb page m.end) ≡ false = grind (arith, nat_tests) in
      rw apart (ap (λ rest. m ∷ rest)
      (split_at-insert m.end ms i whole o.2 (IsFirstAfter-tail m ms page i f) (omega arith) e less))

  pub length-split_at_cut : (low : ℕ) (ms : List Mapping) (i : ℕ) (whole : Mapping) → IsOrdered low ms
      → IsFirstAfter ms page i → i < length ms → get_or ms i whole ≡ whole → whole.first < page
      → length (split_at page ms) ≡ length ms + 1
  length-split_at_cut low ms i whole o f h e less =
      let lens : length (set ms i (below whole page)) ≡ length ms = simp length-set in
      let more : length (insert (set ms i (below whole page)) (suc i) (from_page whole page))
      ≡ length (set ms i (below whole page)) + 1 =
      length-insert (set ms i (below whole page)) (suc i) (from_page whole page) (omega arith) in
      sym (ap length (split_at-insert low ms i whole o f h e less)) ∙ more ∙ ap (λ n. n + 1) lens

  pub split_at_apart : (low : ℕ) (ms : List Mapping) (i : ℕ) → IsOrdered low ms
      → IsFirstAfter ms page i → ((d : Mapping) → i < length ms → page ≤ (get_or ms i d).first)
      → split_at page ms ≡ ms
  split_at_apart low [] i o f above = refl
  split_at_apart low (m ∷ ms) zero o f above =
      split_at_above m.first (m ∷ ms) (omega arith, o.1, o.2) (above m (omega arith))
  split_at_apart low (m ∷ ms) (suc i) o f above =
      let past : m.end ≤ page = f.before 0 m (omega arith) in
      let apart : (ltb m.first page && ltb page m.end) ≡ false = grind (arith, nat_tests) in
      rw (apart, split_at_apart m.end ms i o.2 (IsFirstAfter-tail m ms page i f) (λ d h. above d (omega arith))) refl

-- neighbours are as weaker facts say, too
pub Neighbours-weaker : (R S : Mapping → Mapping → Type 0)
    → ((m n : Mapping) → R m n → S m n) → (ms : List Mapping) → Neighbours R ms
    → Neighbours S ms
Neighbours-weaker R S weaker [] each = tt
Neighbours-weaker R S weaker (m ∷ []) each = (tt, tt)
Neighbours-weaker R S weaker (m ∷ n ∷ ms) each = (weaker m n each.0, Neighbours-weaker R S weaker (n ∷ ms) each.1)

-- a list that goes on nowhere does so at two pages at most
IsMergedBut-from_merged : (p q : ℕ) (ms : List Mapping) → IsMerged ms → IsMergedBut p q ms
IsMergedBut-from_merged p q ms merged =
    Neighbours-weaker _ _ (λ m n apart. λ e. absurd (false≢true (sym apart ∙ e))) ms merged

module _ (p q page : ℕ) (one : (page ≡ p) ⊎ (page ≡ q)) where
  abbrev IsApartBut : Mapping → Mapping → Type 0
  IsApartBut before next = joins before next ≡ true → (next.first ≡ p) ⊎ (next.first ≡ q)

  Beside-split_at : (x : Mapping) (ms : List Mapping) → Beside IsApartBut x ms → Beside IsApartBut x (split_at page ms)
  Beside-split_at x [] apart = tt
  Beside-split_at x (m ∷ ms) apart = split_cases page m ms (Beside IsApartBut x) (λ above below. apart) (λ stays. apart)

  -- the part from a page on goes on as the whole does
  joins-from_page : (m n : Mapping) → m.first < page → page < m.end → joins (from_page m page) n ≡ joins m n
  joins-from_page m n above below =
      let same : m.place.page + (page - m.first) + (m.end - page) ≡ m.place.page + (m.end - m.first) = omega arith in
      ap (λ k. m.end == n.first && (m.place.file == n.place.file && (k == n.place.page
      && (same_rights m.place.rights n.place.rights && same_rights m.place.access n.place.access)))) same

  Beside-from_page : (m : Mapping) (ms : List Mapping) → m.first < page → page < m.end → Beside IsApartBut m ms
      → Beside IsApartBut (from_page m page) ms
  Beside-from_page m [] above below apart = tt
  Beside-from_page m (n ∷ ms) above below apart = λ e. apart (sym (joins-from_page m n above below) ∙ e)

  pub IsMergedBut-split_at : (ms : List Mapping) → IsMergedBut p q ms → IsMergedBut p q (split_at page ms)
  IsMergedBut-split_at [] merged = tt
  IsMergedBut-split_at (m ∷ ms) merged =
      split_cases page m ms (IsMergedBut p q)
      (λ above below. (λ _. one, (Beside-from_page m ms above below merged.0, merged.1)))
      (λ stays. (Beside-split_at m ms merged.0, IsMergedBut-split_at ms merged.1))

-- two rights are the same as themselves
pub same_rights-itself : (rights : Rights) → same_rights rights rights ≡ true
same_rights-itself Read = refl
same_rights-itself ReadWrite = refl

-- the places of two pages of one mapping follow each other
pub follows-place_in : (m : Mapping) (page : ℕ) → m.first < page
    → follows (Some (place_in m (page - 1))) (Some (place_in m page)) ≡ true
follows-place_in m page less =
    let rights = same_rights-itself m.place.rights in
    let access = same_rights-itself m.place.access in
    grind (arith, nat_tests)

-- a split adds a mapping only where one goes on
module _ (page : ℕ) where
  -- two pages that follow each other in the rest of a list do so in the list
  later : (m : Mapping) (ms : List Mapping) → IsOrdered m.end ms
      → follows (lookup (page - 1) ms) (lookup page ms) ≡ true
      → follows (lookup (page - 1) (m ∷ ms)) (lookup page (m ∷ ms)) ≡ true
  later m ms o e =
      elim (cases_lt (page - 1) m.end) [
        | inl less ↦ absurd
            (false≢true (subst (λ p. follows p (lookup page ms) ≡ true) (lookup_below m.end ms o (page - 1) less) e))
        | inr past ↦
            let before : covers m (page - 1) ≡ false = grind (arith, nat_tests) in
            let here : covers m page ≡ false = grind (arith, nat_tests) in
            rw (before, here) e
      ]

  split_length : (low : ℕ) (ms : List Mapping) → IsOrdered low ms
      → (length (split_at page ms) ≡ length ms)
      ⊎ ((length (split_at page ms) ≡ length ms + 1) × (follows (lookup (page - 1) ms) (lookup page ms) ≡ true))
  split_length low [] o = inl refl
  split_length low (m ∷ ms) o =
      split_cases page m ms (λ l. (length l ≡ length (m ∷ ms))
      ⊎ ((length l ≡ length (m ∷ ms) + 1) × (follows (lookup (page - 1) (m ∷ ms)) (lookup page (m ∷ ms)) ≡ true)))
      (λ above below.
      let before : covers m (page - 1) ≡ true = grind (arith, nat_tests) in
      let here : covers m page ≡ true = grind (arith, nat_tests) in
      inr (omega arith, rw (before, here) (follows-place_in m page above)))
      (λ stays. elim (split_length m.end ms o.2) [
        | inl same ↦ inl (omega arith)
        | inr more ↦ inr (omega (arith, more.0), later m ms o.2 more.1)
      ])

  pub length-split_at : (low : ℕ) (ms : List Mapping) → IsOrdered low ms
      → length (split_at page ms) ≤ length ms + cond (goes_on (places_of ms) page) 1 0
  length-split_at low ms o = elim (split_length low ms o) [
    | inl same ↦ omega arith
    | inr more ↦ rw (get-places_of ms (page - 1), get-places_of ms page, more.1) (omega (arith, more.0))
  ]

module _ (p : Mapping → Bool) where
  pub IsOrdered-filter : (low : ℕ) (ms : List Mapping) → IsOrdered low ms → IsOrdered low (filter p ms)
  IsOrdered-filter low [] o = tt
  IsOrdered-filter low (m ∷ ms) o =
      let few = o.1.has_pages in let bound = o.0 in
      let rest = IsOrdered-filter m.end ms o.2 in
      elim (p m) as (λ b. IsOrdered low (cond b (m ∷ filter p ms) (filter p ms))) [
        | true ↦ (o.0, o.1, rest)
        | false ↦ IsOrdered-lower m.end low (filter p ms) rest (omega arith)
      ]

module _ (first count : ℕ) where
  -- what is left of a list that isn't cut at the ends of a range, without its mappings within the range
  pub lookup-outside : (q low : ℕ) (ms : List Mapping) → 0 < count
      → IsOrdered low ms → IsUncut first ms → IsUncut (first + count) ms
      → lookup q (filter (is_outside first (first + count)) ms) ≡ cond (is_among first count q) None (lookup q ms)
  lookup-outside q low [] some o u v = grind (arith, nat_tests)
  lookup-outside q low (m ∷ ms) some o u v =
      let few = o.1.has_pages in let left = u.0 in let right = v.0 in
      let rest = lookup-outside q m.end ms some o.2 u.1 v.1 in
      elim (is_outside first (first + count) m) as (λ b. is_outside first (first + count) m ≡ b → lookup q
      (cond b (m ∷ filter (is_outside first (first + count)) ms) (filter (is_outside first (first + count)) ms))
      ≡ cond (is_among first count q) None (lookup q (m ∷ ms))) [
        | true ↦ λ e. rw rest (grind (arith, nat_tests))
        | false ↦ λ e. rw rest (grind (arith, nat_tests))
      ] refl

  module _ (rights : Rights) where
    pub IsOrdered-with_rights_within : (end low : ℕ) (ms : List Mapping) → IsOrdered low ms
        → IsOrdered low (map (with_rights_within first end rights) ms)
    IsOrdered-with_rights_within end low [] o = tt
    IsOrdered-with_rights_within end low (m ∷ ms) o =
        let rest = IsOrdered-with_rights_within end m.end ms o.2 in
        elim (leb first m.first && ltb m.first end) as (λ b. let n =
        cond b (record m { place = record m.place { rights = rights } }) m in
        IsOrdered low (n ∷ map (with_rights_within first end rights) ms)) [
          | true ↦ (o.0, record { has_pages = o.1.has_pages; below_end = o.1.below_end; in_file = o.1.in_file }, rest)
          | false ↦ (o.0, o.1, rest)
        ]

    -- what is mapped, with the rights of the mappings within a range changed
    pub lookup-with_rights_within : (q low : ℕ) (ms : List Mapping) → 0 < count
        → IsOrdered low ms → IsUncut first ms → IsUncut (first + count) ms
        → lookup q (map (with_rights_within first (first + count) rights) ms)
        ≡ option_map (λ place. if is_among first count q then record place { rights = rights } else place) (lookup q ms)
    lookup-with_rights_within q low [] some o u v = refl
    lookup-with_rights_within q low (m ∷ ms) some o u v =
        let few = o.1.has_pages in let left = u.0 in let right = v.0 in
        let changed = map (with_rights_within first (first + count) rights) ms in
        let change = λ (place : Place). if is_among first count q then record place { rights = rights } else place in
        let rest : lookup q changed ≡ option_map change (lookup q ms) =
        lookup-with_rights_within q m.end ms some o.2 u.1 v.1 in
        let new : Mapping = record m { place = record m.place { rights = rights } } in
        elim (leb first m.first && ltb m.first (first + count))
        as (λ b. (leb first m.first && ltb m.first (first + count)) ≡ b
        → lookup q (cond b new m ∷ changed) ≡ option_map change (lookup q (m ∷ ms))) [
          | true ↦ λ e. elim (covers m q) as (λ c. covers m q ≡ c → cond c (Some (place_in new q)) (lookup q changed)
              ≡ option_map change (cond c (Some (place_in m q)) (lookup q ms))) [
                | true ↦ λ h. let among : is_among first count q ≡ true = grind (arith, nat_tests) in rw among refl
                | false ↦ λ h. rest
              ] refl
          | false ↦ λ e. elim (covers m q) as (λ c. covers m q ≡ c → cond c (Some (place_in m q)) (lookup q changed)
              ≡ option_map change (cond c (Some (place_in m q)) (lookup q ms))) [
                | true ↦ λ h. let among : is_among first count q ≡ false = grind (arith, nat_tests) in rw among refl
                | false ↦ λ h. rest
              ] refl
        ] refl

-- a range that is taken out
pub places_of-outside : (first count low : ℕ) (ms : List Mapping) → 0 < count
    → IsOrdered low ms → IsUncut first ms → IsUncut (first + count) ms
    → places_of (filter (is_outside first (first + count)) ms) ≡ without_range (places_of ms) first count
places_of-outside first count low ms some o u v =
    fin_map.same_map nat_cmp_total fin_map.nat_cmp-IsAntisymmetric _ _ (λ q.
    get-places_of (filter (is_outside first (first + count)) ms) q ∙ lookup-outside first count q low ms some o u v
    ∙ sym (rw (get-without_range (places_of ms) first count q, get-places_of ms q) refl))

-- a range whose rights are changed
pub places_of-with_rights_within : (first count low : ℕ) (rights : Rights) (ms : List Mapping)
    → 0 < count → IsOrdered low ms → IsUncut first ms → IsUncut (first + count) ms
    → places_of (map (with_rights_within first (first + count) rights) ms)
    ≡ with_rights (places_of ms) first count rights
places_of-with_rights_within first count low rights ms some o u v =
    fin_map.same_map nat_cmp_total fin_map.nat_cmp-IsAntisymmetric _ _ (λ q.
    get-places_of (map (with_rights_within first (first + count) rights) ms) q
    ∙ lookup-with_rights_within first count rights q low ms some o u v
    ∙ sym (rw (get-with_rights (places_of ms) first count rights q, get-places_of ms q) refl))

-- room for the splits is room for both lists
pub split_room : (ms : List Mapping) (first count : ℕ) → IsOrdered 0 ms
    → length (split_at (first + count) ms) ≤ length ms + end_splits (places_of ms) first count
split_room ms first count o = omega (arith, length-split_at (first + count) 0 ms o)

pub split_room_twice : (ms : List Mapping) (first count : ℕ) → IsOrdered 0 ms
    → length (split_at first (split_at (first + count) ms)) ≤ length ms + end_splits (places_of ms) first count
split_room_twice ms first count o =
    let once = length-split_at (first + count) 0 ms o in
    let same : places_of (split_at (first + count) ms) ≡ places_of ms =
    same_places _ _ (λ q. lookup-split_at (first + count) q ms) in
    let twice = subst (λ (p : Places). length (split_at first (split_at (first + count) ms))
    ≤ length (split_at (first + count) ms) + cond (goes_on p first) 1 0)
    same (length-split_at first 0 (split_at (first + count) ms) (IsOrdered-split_at (first + count) 0 ms o)) in
    omega (arith, once, twice)

-- two splits leave no mapping across the ends of a range
pub IsSplit-split_at : (ms : List Mapping) (first count : ℕ) → IsOrdered 0 ms → IsMerged ms
    → IsSplit ms (split_at first (split_at (first + count) ms)) first count
IsSplit-split_at ms first count o merged =
    let once = split_at (first + count) ms in
    let ordered = IsOrdered-split_at (first + count) 0 ms o in
    record {
      ordered = IsOrdered-split_at first 0 once ordered;
      same_places = same_places _ _ (λ q. lookup-split_at first q once ∙ lookup-split_at (first + count) q ms);
      uncut_first = IsUncut-split_at first 0 once ordered;
      uncut_end = IsUncut-split_at_other first (first + count) once (IsUncut-split_at (first + count) 0 ms o);
      merged_but = IsMergedBut-split_at first (first + count) first (inl refl) once (IsMergedBut-split_at first
          (first + count) (first + count) (inr refl) ms (IsMergedBut-from_merged first (first + count) ms merged));
    }

-- no page from 2^35 on is mapped
lookup_high : (low : ℕ) (ms : List Mapping) → IsOrdered low ms → (q : ℕ) → 2 ^ 35 ≤ q → lookup q ms ≡ None
lookup_high low [] o q high = refl
lookup_high low (m ∷ ms) o q high =
    let below = o.1.below_end in
    let missed : covers m q ≡ false = grind (arith, nat_tests) in
    rw missed (lookup_high m.end ms o.2 q high)

ends_at_none : (p : Option Place) → follows p None ≡ false
ends_at_none None = refl
ends_at_none (Some x) = refl

goes_on_high : (ms : List Mapping) (page : ℕ) → IsOrdered 0 ms → 2 ^ 35 ≤ page → goes_on (places_of ms) page ≡ false
goes_on_high ms page o high = rw (get-places_of ms page, lookup_high 0 ms o page high) (ends_at_none _)

-- an end past the last number is past every mapping too
pub is_cut_end : (ms : List Mapping) (past end : ℕ) (rights : Rights)
    → IsOrdered 0 ms → (past < 2 ^ 64 → end ≡ past) → (2 ^ 64 ≤ past → 2 ^ 35 ≤ end)
    → is_cut (places_of ms) end rights ≡ is_cut (places_of ms) past rights
is_cut_end ms past end rights o near far =
    elim (cases_lt past (2 ^ 64)) [
      | inl less ↦ ap (λ q. is_cut (places_of ms) q rights) (near less)
      | inr more ↦ rw (goes_on_high ms end o (far more), goes_on_high ms past o (omega arith)) refl
    ]
