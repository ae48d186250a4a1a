-- What is left of a list of mappings without the pages of a range.
use Rattle.std.proofs.Common.{◌≡◌, ℕ, zero, suc, ◌+◌, ◌-◌, ◌<◌, ◌≤◌, Bool, true, false, cond}
use Rattle.std.proofs.Common.{◌&&◌, leb, ltb, List, [], ◌∷◌, length, get_or, take, drop}
use Rattle.std.proofs.Common.{Option, Some, None, IsSome, refl, sym, ap, ◌∙◌, subst, inl, inr, arith}
use Rattle.std.specs.List.{remove_range}
use Rattle.std.specs.FinMap as fin_map
use Rattle.std.specs.Cmp.{nat_cmp_total}
use Rattle.std.proofs.lemmas.Bool.{cases_lt}
use Rattle.std.proofs.lemmas.Bool.Decides.{nat_tests}
use Rattle.mappings.specs.declared.place.Place.{Place}
use Rattle.mappings.specs.declared.mapping.Mapping.{Mapping}
use Rattle.std.proofs.lemmas.List.{length-append, length-take-le, length-drop, get_or_default}
use Rattle.std.proofs.lemmas.List.Edits.{length-insert}
use Rattle.mappings.specs.Places.{is_within, without_range}
use Rattle.mappings.specs.inside.Listed.{covers, place_in, places_of, joins, Beside}
use Rattle.mappings.specs.inside.Listed.{IsMerged, IsOrdered, IsMeeting, IsKept}
use Rattle.mappings.specs.inside.Edits.{below, from_page, is_outside, part_below, part_from}
use Rattle.mappings.specs.inside.Edits.{put_first, put_at, without_pages, IsAround}
use Rattle.mappings.proofs.PlacesLaws.{advanced-advanced, get-without_range}
use Rattle.mappings.proofs.Lists.{lookup, get-places_of, lookup_below, IsOrdered-lower}
use Rattle.mappings.proofs.Inside.{is_within-inside}

module _ (first end : ℕ) (some : first < end) where
  -- what is left of the first mapping, by where it lies
  cases_of : (m : Mapping) (rest : List Mapping) (P : List Mapping → Type 0)
      → (is_outside first end m ≡ true → P (m ∷ rest))
      → (first < m.end → m.first < end → m.first < first → end < m.end → P (below m first ∷ (from_page m end ∷ rest)))
      → (first < m.end → m.first < end → m.first < first → m.end ≤ end → P (below m first ∷ rest))
      → (first < m.end → m.first < end → first ≤ m.first → end < m.end → P (from_page m end ∷ rest))
      → (first < m.end → m.first < end → first ≤ m.first → m.end ≤ end → P rest)
      → P (cond (is_outside first end m) (m ∷ rest) (put_first (part_below first m) (put_first (part_from end m) rest)))
  cases_of m rest P outside both head tail none =
      elim (is_outside first end m) as (λ b. is_outside first end m ≡ b
      → P (cond b (m ∷ rest) (put_first (part_below first m) (put_first (part_from end m) rest)))) [
        | true ↦ outside
        | false ↦ λ e.
            let a : first < m.end = grind (arith, nat_tests) in
            let b : m.first < end = grind (arith, nat_tests) in
            elim (ltb m.first first) as (λ c. ltb m.first first ≡ c
            → P (put_first (cond c (Some (below m first)) None) (put_first (part_from end m) rest))) [
              | true ↦ λ c. elim (ltb end m.end) as (λ d.
                  ltb end m.end ≡ d → P (below m first ∷ put_first (cond d (Some (from_page m end)) None) rest)) [
                    | true ↦ λ d. both a b (grind (arith, nat_tests)) (grind (arith, nat_tests))
                    | false ↦ λ d. head a b (grind (arith, nat_tests)) (grind (arith, nat_tests))
                  ] refl
              | false ↦ λ c. elim (ltb end m.end)
                  as (λ d. ltb end m.end ≡ d → P (put_first (cond d (Some (from_page m end)) None) rest)) [
                    | true ↦ λ d. tail a b (grind (arith, nat_tests)) (grind (arith, nat_tests))
                    | false ↦ λ d. none a b (grind (arith, nat_tests)) (grind (arith, nat_tests))
                  ] refl
            ] refl
      ] refl

  lookup-without : (q low : ℕ) (ms : List Mapping) → IsOrdered low ms
      → lookup q (without_pages first end ms) ≡ cond (leb first q && ltb q end) None (lookup q ms)
  lookup-without q low [] o = elim (leb first q && ltb q end) as (λ b. ◌≡◌ {A = Option Place} None (cond b None None)) [
    | true ↦ refl
    | false ↦ refl
  ]
  lookup-without q low (m ∷ ms) o =
      let few = o.1.has_pages in
      let rest = lookup-without q m.end ms o.2 in
      let later : q < m.end → lookup q ms ≡ None = λ less. lookup_below m.end ms o.2 q less in
      let further : m.first < end → end ≤ q → place_in (from_page m end) q ≡ place_in m q =
      λ low le. advanced-advanced m.place (end - m.first) (q - end) (q - m.first) (omega arith) in
      cases_of m (without_pages first end ms)
      (λ l. lookup q l ≡ cond (leb first q && ltb q end) None (lookup q (m ∷ ms)))
      (λ e. rw rest (grind (arith, nat_tests)))
      (λ a b c d. rw rest (by_end q m ms (further b) later a b c d))
      (λ a b c d. rw rest (grind (arith, nat_tests)))
      (λ a b c d. rw rest (by_tail q m ms (further b) later a b c d))
      (λ a b c d. rw rest (grind (arith, nat_tests)))
    where
      by_end : (q : ℕ) (m : Mapping) (ms : List Mapping) → (end ≤ q → place_in (from_page m end) q ≡ place_in m q)
          → (q < m.end → lookup q ms ≡ None) → first < m.end → m.first < end → m.first < first → end < m.end
          → cond (covers (below m first) q) (Some (place_in m q)) (cond (covers (from_page m end) q)
          (Some (place_in (from_page m end) q)) (cond (leb first q && ltb q end) None (lookup q ms)))
          ≡ cond (leb first q && ltb q end) None (cond (covers m q) (Some (place_in m q)) (lookup q ms))
      by_end q m ms further later a b c d = elim (cases_lt q end) [
        | inl less ↦ grind (arith, nat_tests)
        | inr more ↦ let same = further more in grind (arith, nat_tests)
      ]

      by_tail : (q : ℕ) (m : Mapping) (ms : List Mapping) → (end ≤ q → place_in (from_page m end) q ≡ place_in m q)
          → (q < m.end → lookup q ms ≡ None) → first < m.end → m.first < end → first ≤ m.first → end < m.end
          → cond (covers (from_page m end) q) (Some (place_in (from_page m end) q))
          (cond (leb first q && ltb q end) None (lookup q ms))
          ≡ cond (leb first q && ltb q end) None (cond (covers m q) (Some (place_in m q)) (lookup q ms))
      by_tail q m ms further later a b c d = elim (cases_lt q end) [
        | inl less ↦ grind (arith, nat_tests)
        | inr more ↦ let same = further more in grind (arith, nat_tests)
      ]

  IsOrdered-without : (low : ℕ) (ms : List Mapping) → IsOrdered low ms → IsOrdered low (without_pages first end ms)
  IsOrdered-without low [] o = tt
  IsOrdered-without low (m ∷ ms) o =
      let bound = o.0 in
      let few = o.1.has_pages in let high = o.1.below_end in let file = o.1.in_file in
      let rest = IsOrdered-without m.end ms o.2 in
      cases_of m (without_pages first end ms) (IsOrdered low)
      (λ e. (o.0, o.1, rest))
      (λ a b c d. (
        o.0,
        record { has_pages = c; below_end = omega arith; in_file = omega arith },
        (omega arith, record { has_pages = d; below_end = high; in_file = omega arith }, rest),
      ))
      (λ a b c d. (
        o.0,
        record { has_pages = c; below_end = omega arith; in_file = omega arith },
        IsOrdered-lower m.end first (without_pages first end ms) rest (omega arith),
      ))
      (λ a b c d. (omega arith, record { has_pages = d; below_end = high; in_file = omega arith }, rest))
      (λ a b c d. IsOrdered-lower m.end low (without_pages first end ms) rest (omega arith))

  abbrev IsApart : Mapping → Mapping → Type 0
  IsApart before next = joins before next ≡ false

  -- a mapping doesn't go on where the next one begins later
  apart_later : (m : Mapping) (low : ℕ) (ms : List Mapping) → m.end < low → IsOrdered low ms → Beside IsApart m ms
  apart_later m low [] less o = tt
  apart_later m low (n ∷ ms) less o = let bound = o.0 in grind (arith, nat_tests)

  -- what is left begins where a list did, or later than the end of what was before it
  beside-without : (x : Mapping) (low : ℕ) (ms : List Mapping) → x.end ≤ low → IsOrdered low ms → Beside IsApart x ms
      → Beside IsApart x (without_pages first end ms)
  beside-without x low [] le o apart = tt
  beside-without x low (m ∷ ms) le o apart =
      let bound = o.0 in
      let few = o.1.has_pages in
      let rest = IsOrdered-without m.end ms o.2 in
      cases_of m (without_pages first end ms) (Beside IsApart x)
      (λ e. apart)
      (λ a b c d. apart)
      (λ a b c d. apart)
      (λ a b c d. grind (arith, nat_tests))
      (λ a b c d. apart_later x m.end (without_pages first end ms) (omega arith) rest)

  -- the part from a page on goes on as the whole does
  beside-from_page : (m : Mapping) (ms : List Mapping) → m.first < end → end < m.end → Beside IsApart m ms
      → Beside IsApart (from_page m end) ms
  beside-from_page m [] a b apart = tt
  beside-from_page m (n ∷ ms) a b apart =
      let same : m.place.page + (end - m.first) + (m.end - end) ≡ m.place.page + (m.end - m.first) = omega arith in
      rw same apart

  IsMerged-without : (low : ℕ) (ms : List Mapping) → IsOrdered low ms → IsMerged ms
      → IsMerged (without_pages first end ms)
  IsMerged-without low [] o is = tt
  IsMerged-without low (m ∷ ms) o is =
      let few = o.1.has_pages in
      let left = IsOrdered-without m.end ms o.2 in
      let rest = IsMerged-without m.end ms o.2 is.1 in
      let beside = beside-without m m.end ms (omega arith) o.2 is.0 in
      cases_of m (without_pages first end ms) IsMerged
      (λ e. (beside, rest))
      (λ a b c d. (grind (arith, nat_tests), (beside-from_page m (without_pages first end ms) b d beside, rest)))
      (λ a b c d. (apart_later (below m first) m.end (without_pages first end ms) a left, rest))
      (λ a b c d. (beside-from_page m (without_pages first end ms) b d beside, rest))
      (λ a b c d. rest)

  -- mappings after the range stay
  without-after : (ms : List Mapping) → ((j : ℕ) (d : Mapping) → j < length ms → end ≤ (get_or ms j d).first)
      → without_pages first end ms ≡ ms
  without-after [] after = refl
  without-after (m ∷ ms) after =
      let late = after 0 m (omega arith) in
      let outside : is_outside first end m ≡ true = grind (arith, nat_tests) in
      rw outside (ap (λ l. m ∷ l) (without-after ms (λ j d h. after (suc j) d (omega arith))))

  -- of the mappings of the range the first and the last one leave parts
  without-ends : (n low : ℕ) (m tail : Mapping) (ms : List Mapping)
      → IsOrdered low (m ∷ ms) → n < length (m ∷ ms) → get_or (m ∷ ms) n tail ≡ tail
      → ((j : ℕ) (d : Mapping) → n < j → j < length (m ∷ ms) → end ≤ (get_or (m ∷ ms) j d).first)
      → ((j : ℕ) (d : Mapping) → j ≤ n → first < (get_or (m ∷ ms) j d).end)
      → ((j : ℕ) (d : Mapping) → j ≤ n → (get_or (m ∷ ms) j d).first < end)
      → without_pages first end (m ∷ ms) ≡ put_first (part_below first m) (put_first (part_from end tail) (drop n ms))
  without-ends zero low m tail ms o h e after ends begins =
      let a = ends 0 m (omega arith) in
      let b = begins 0 m (omega arith) in
      let inside : is_outside first end m ≡ false = grind (arith, nat_tests) in
      rw inside (ap (λ l. put_first (part_below first m) (put_first (part_from end m) l))
      (without-after ms (λ j d k. after (suc j) d (omega arith) (omega arith)))
      ∙ ap (λ t. put_first (part_below first m) (put_first (part_from end t) ms)) e)
  without-ends (suc n) low m tail [] o h e after ends begins = absurd (omega arith)
  without-ends (suc n) low m tail (k ∷ ms) o h e after ends begins =
      let a = ends 0 m (omega arith) in
      let b = begins 0 m (omega arith) in
      let c = begins 1 m (omega arith) in
      let bound = o.2.0 in
      let inside : is_outside first end m ≡ false = grind (arith, nat_tests) in
      let no_tail : ltb end m.end ≡ false = grind (arith, nat_tests) in
      let no_head : ltb k.first first ≡ false = grind (arith, nat_tests) in
      rw (inside, no_tail) (ap (put_first (part_below first m)) (
      without-ends n m.end k tail ms o.2 (omega arith) e (λ j d p q. after (suc j) d (omega arith) (omega arith))
      (λ j d p. ends (suc j) d (omega arith)) (λ j d p. begins (suc j) d (omega arith))
      ∙ rw no_head refl))

  -- without a range, what is left of the first and the last mapping that have pages of it is put in their place
  pub without-put : (low from to : ℕ) (head tail : Mapping) (ms : List Mapping) → IsOrdered low ms
      → IsMeeting ms first end from to → from < to → get_or ms from head ≡ head → get_or ms (to - 1) tail ≡ tail
      → put_at (put_at (remove_range ms from to) from (part_from end tail)) from (part_below first head)
      ≡ without_pages first end ms
  without-put low from to head tail [] o is less a b = absurd (omega (arith, is.within))
  without-put low zero (suc n) head tail (m ∷ ms) o is less a b =
      by_parts (part_below first head) (part_from end tail) (drop n ms)
      ∙ ap (λ h. put_first (part_below first h) (put_first (part_from end tail) (drop n ms))) (sym a)
      ∙ sym (without-ends n low m tail ms o (omega (arith, is.within))
      (subst (λ k. get_or (m ∷ ms) k tail ≡ tail) {x = suc n - 1} {y = n} (omega arith) b)
      (λ j d p q. is.after j d (omega arith) q) (λ j d p. is.ends j d (omega arith) (omega arith))
      (λ j d p. is.begins j d (omega arith) (omega arith)))
    where
      by_parts : (x y : Option Mapping) (l : List Mapping) → put_at (put_at l 0 y) 0 x ≡ put_first x (put_first y l)
      by_parts None None l = refl
      by_parts None (Some y) l = refl
      by_parts (Some x) None l = refl
      by_parts (Some x) (Some y) l = refl
  without-put low zero zero head tail (m ∷ ms) o is less a b = absurd (omega arith)
  without-put low (suc from) zero head tail (m ∷ ms) o is less a b = absurd (omega arith)
  without-put low (suc from) (suc zero) head tail (m ∷ ms) o is less a b = absurd (omega arith)
  without-put low (suc from) (suc (suc to)) head tail (m ∷ ms) o is less a b =
      let early = is.before 0 m (omega arith) in
      let outside : is_outside first end m ≡ true = grind (arith, nat_tests) in
      let rest = without-put m.end from (suc to) head tail ms o.2 (meeting_rest m ms from (suc to) is) (omega arith) a
      (subst (λ k. get_or (m ∷ ms) k tail ≡ tail) {x = suc (suc to) - 1} {y = suc (suc to - 1)} (omega arith) b) in
      by_parts m (remove_range ms from (suc to)) from (part_below first head) (part_from end tail)
      ∙ ap (λ l. m ∷ l) rest
      ∙ sym (rw outside refl)
    where
      meeting_rest : (m : Mapping) (ms : List Mapping) (from to : ℕ) → IsMeeting (m ∷ ms) first end (suc from) (suc to)
          → IsMeeting ms first end from to
      meeting_rest m ms from to is = record {
        forward = omega (arith, is.forward);
        within = omega (arith, is.within);
        before = λ j d p. is.before (suc j) d (omega arith);
        after = λ j d p q. is.after (suc j) d (omega arith) (omega arith);
        ends = λ j d p q. is.ends (suc j) d (omega arith) (omega arith);
        begins = λ j d p q. is.begins (suc j) d (omega arith) (omega arith);
      }

      by_parts : (m : Mapping) (l : List Mapping) (i : ℕ) (x y : Option Mapping)
          → put_at (put_at (m ∷ l) (suc i) y) (suc i) x ≡ m ∷ put_at (put_at l i y) i x
      by_parts m l i None None = refl
      by_parts m l i None (Some y) = refl
      by_parts m l i (Some x) None = refl
      by_parts m l i (Some x) (Some y) = refl

  -- where no mapping has pages of a range, all stay
  pub without-nothing : (low from to : ℕ) (ms : List Mapping)
      → IsOrdered low ms → IsMeeting ms first end from to → to ≤ from
      → without_pages first end ms ≡ ms
  without-nothing low from to [] o is le = refl
  without-nothing low from to (m ∷ ms) o is le = without_each (m ∷ ms) (λ j d h. elim (cases_lt j from) [
    | inl less ↦ let early = is.before j d less in grind (arith, nat_tests)
    | inr more ↦ let late = is.after j d (omega arith) h in grind (arith, nat_tests)
  ])
    where
      without_each : (ms : List Mapping)
          → ((j : ℕ) (d : Mapping) → j < length ms → is_outside first end (get_or ms j d) ≡ true)
          → without_pages first end ms ≡ ms
      without_each [] each = refl
      without_each (m ∷ ms) each =
          rw (each 0 m (omega arith)) (ap (λ l. m ∷ l) (without_each ms (λ j d h. each (suc j) d (omega arith))))

-- what is left is kept, and maps all pages but those of the range
pub IsKept-without : (first end : ℕ) (ms : List Mapping) → first < end → IsKept ms → IsKept (without_pages first end ms)
IsKept-without first end ms some kept = record {
  ordered = IsOrdered-without first end some 0 ms kept.ordered;
  merged = IsMerged-without first end some 0 ms kept.ordered kept.merged;
}

pub places_of-without : (first count : ℕ) (ms : List Mapping) → 0 < count → IsKept ms
    → places_of (without_pages first (first + count) ms) ≡ without_range (places_of ms) first count
places_of-without first count ms some kept =
    fin_map.same_map nat_cmp_total fin_map.nat_cmp-IsAntisymmetric _ _ (λ q.
    get-places_of (without_pages first (first + count) ms) q
    ∙ lookup-without first (first + count) (omega arith) q 0 ms kept.ordered
    ∙ sym (rw (get-without_range (places_of ms) first count q, get-places_of ms q) refl))

-- there is room for both parts of what a range leaves
pub room_for_parts : (ms : List Mapping) (first count from to : ℕ) (head tail : Mapping)
    → IsKept ms → IsMeeting ms first (first + count) from to → from < to
    → get_or ms from head ≡ head → get_or ms (to - 1) tail ≡ tail → IsSome (part_below first head)
    → length (put_at (remove_range ms from to) from (part_from (first + count) tail))
    < length ms + cond (is_within (places_of ms) first count) 1 0
room_for_parts ms first count from to head tail kept is less a b some =
    by_tail (ltb (first + count) tail.end) refl
  where
    size : length (remove_range ms from to) ≡ length ms - (to - from)
    size = omega (
      arith,
      length-append (take from ms) (drop to ms),
      length-take-le from ms (omega (arith, is.within, less)),
      length-drop to ms,
      is.within,
    )

    one : to ≡ from + 1 → first + count < tail.end → ◌≡◌ {A = ℕ} (cond (is_within (places_of ms) first count) 1 0) 1
    one next past =
        let same : head ≡ tail =
        sym a
        ∙ get_or_default ms from head tail (omega (arith, is.within))
        ∙ ap (λ i. get_or ms i tail) {x = from} {y = to - 1} (omega arith)
        ∙ b in
        let begins : head.first < first = grind (arith, nat_tests) in
        let ends : first < head.end =
        subst (λ (m : Mapping). first < m.end) a (is.ends from head (omega arith) (omega arith)) in
        let longer : first + count < head.end = subst (λ (m : Mapping). first + count < m.end) (sym same) past in
        let inside : IsAround ms first head = record {
          at = from;
          within = omega (arith, is.within);
          found = λ d. get_or_default ms from d head (omega (arith, is.within)) ∙ a;
          below = begins;
          above = ends;
        } in
        let whole : is_within (places_of ms) first count ≡ true =
        sym (is_within-inside ms kept first count head inside)
        ∙ grind (arith, nat_tests) in
        rw whole refl

    by_tail : (t : Bool) → ltb (first + count) tail.end ≡ t
        → length (put_at (remove_range ms from to) from (cond t (Some (from_page tail (first + count))) None))
        < length ms + cond (is_within (places_of ms) first count) 1 0
    by_tail false e = omega (arith, size, less, is.within)
    by_tail true e =
        let more = length-insert (remove_range ms from to) from (from_page tail (first + count))
        (omega (arith, size, less, is.within)) in
        elim (cases_lt (from + 1) to) [
          | inl several ↦ omega (arith, size, more, is.within)
          | inr single ↦ omega (arith, size, more, is.within, one (omega arith) (grind (arith, nat_tests)))
        ]

-- what is left when the parts are put in their place
pub removed_by_parts : (ms new : List Mapping) (first count from to : ℕ) (head tail : Mapping)
    → 0 < count → IsKept ms → IsMeeting ms first (first + count) from to
    → from < to → get_or ms from head ≡ head → get_or ms (to - 1) tail ≡ tail
    → new ≡ put_at (put_at (remove_range ms from to) from (part_from (first + count) tail)) from (part_below first head)
    → IsKept new × (places_of new ≡ without_range (places_of ms) first count)
removed_by_parts ms new first count from to head tail some kept is less a b same =
    let left =
    same ∙ without-put first (first + count) (omega arith) 0 from to head tail ms kept.ordered is less a b in (
      subst IsKept (sym left) (IsKept-without first (first + count) ms (omega arith) kept),
      ap places_of left ∙ places_of-without first count ms some kept,
    )

-- where no mapping has pages of a range, nothing is left out
pub removed_nothing : (ms : List Mapping) (first count from to : ℕ) → 0 < count
    → IsKept ms → IsMeeting ms first (first + count) from to → to ≤ from
    → places_of ms ≡ without_range (places_of ms) first count
removed_nothing ms first count from to some kept is le =
    ap places_of (sym (without-nothing first (first + count) (omega arith) 0 from to ms kept.ordered is le))
    ∙ places_of-without first count ms some kept
