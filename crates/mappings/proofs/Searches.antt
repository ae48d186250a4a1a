-- What searches over a list of mappings say of a range of pages.
use Rattle.std.proofs.Common.{◌≡◌, ℕ, zero, suc, ◌+◌, ◌-◌, ◌<◌, ◌≤◌, max, Bool, true, false, not, cond}
use Rattle.std.proofs.Common.{◌&&◌, ◌||◌, leb, ltb, List, [], ◌∷◌, length, get_or, take, drop, Option}
use Rattle.std.proofs.Common.{Some, None, IsSome, is_some, refl, sym, ap, ◌∙◌, subst, inl, inr, arith}
use Rattle.std.specs.Option.{option_map_or}
use Rattle.std.specs.List.{list_any, range_with_len}
use Rattle.std.specs.FinMap as fin_map
use Rattle.std.proofs.lemmas.Bool.{cases_lt, false≢true}
use Rattle.std.proofs.lemmas.Bool.Decides.{nat_tests, same_from_decides}
use Rattle.std.proofs.lemmas.List.{get_or_default, get_or-take, get_or-drop, length-take, length-drop}
use Rattle.mappings.specs.declared.place.Place.{Place}
use Rattle.mappings.specs.declared.place.Rights.{Rights}
use Rattle.mappings.specs.declared.place.Rights.TheVariants.{Read}
use Rattle.mappings.specs.declared.mapping.Mapping.{Mapping}
use Rattle.mappings.specs.Places.{advanced, any_mapped, all_mapped, any_forbids, allows}
use Rattle.mappings.specs.inside.Listed.{covers, place_in, places_of, IsOrdered, IsFirstAfter, IsMeeting}
use Rattle.mappings.specs.inside.Edits.{meets}
use Rattle.mappings.proofs.PlacesLaws.{Decides-any_in_range, Decides-all_in_range}
use Rattle.mappings.proofs.Lists.{lookup, get-places_of, lookup_below, lookup_at}
use Rattle.mappings.proofs.Lists.{lookup_past, mapping_at, apart_at, IsFirstAfter-later}

module _ (t : Place → Bool) (same : (place : Place) (k : ℕ) → t (advanced place k) ≡ t place) (first count : ℕ)
    (some : 0 < count) where
  abbrev Found : List Mapping → Type 0
  Found ms = (q : ℕ) × (first ≤ q) × (q < first + count) × (option_map_or t (lookup q ms) false ≡ true)

  found_from_meets : (low : ℕ) (ms : List Mapping) → IsOrdered low ms
      → list_any (λ m. meets first count m && t m.place) ms ≡ true
      → Found ms
  found_from_meets low [] o e = absurd (false≢true e)
  found_from_meets low (m ∷ ms) o e =
      let rest = list_any (λ m. meets first count m && t m.place) ms in
      elim (meets first count m && t m.place)
      as (λ b. (meets first count m && t m.place) ≡ b → (b || rest) ≡ true → Found (m ∷ ms)) [
        | true ↦ λ h _.
            let q = max first m.first in
            let few = o.1.has_pages in
            let meet : meets first count m ≡ true = grind arith in
            let passes : t m.place ≡ true = grind arith in
            let less : q < first + count = grind (arith, nat_tests) in
            let here : covers m q ≡ true = grind (arith, nat_tests) in
            (q, omega arith, less, rw here (same m.place (q - m.first) ∙ passes))
        | false ↦ λ _ h.
            let w = found_from_meets m.end ms o.2 h in
            elim (cases_lt w.0 m.end) [
              | inl less ↦ absurd (false≢true (subst (λ (p : Option Place). option_map_or t p false ≡ true)
                  (lookup_below m.end ms o.2 w.0 less) w.3))
              | inr past ↦
                  let missed : covers m w.0 ≡ false = grind (arith, nat_tests) in
                  (w.0, w.1, w.2, rw missed w.3)
            ]
      ] refl e

  meets_from_found : (ms : List Mapping) → Found ms → list_any (λ m. meets first count m && t m.place) ms ≡ true
  meets_from_found [] w = w.3
  meets_from_found (m ∷ ms) w =
      let q = w.0 in let low = w.1 in let high = w.2 in
      let rest = list_any (λ m. meets first count m && t m.place) ms in
      elim (covers m q)
      as (λ b. covers m q ≡ b → option_map_or t (cond b (Some (place_in m q)) (lookup q ms)) false ≡ true
      → ((meets first count m && t m.place) || rest) ≡ true) [
        | true ↦ λ e found.
            let passes : t m.place ≡ true = sym (same m.place (q - m.first)) ∙ found in
            let meet : meets first count m ≡ true = grind (arith, nat_tests) in
            rw (meet, passes) refl
        | false ↦ λ e found. let later = meets_from_found ms (q, low, high, found) in rw later
            (elim (meets first count m && t m.place) as (λ b. (b || true) ≡ true) [ true ↦ refl | false ↦ refl ])
      ] refl w.3

  -- a page of the range whose place passes the test is one of a mapping that passes it and meets the range
  pub any_meets : (low : ℕ) (ms : List Mapping) → IsOrdered low ms
      → list_any (λ m. meets first count m && t m.place) ms
      ≡ list_any (λ q. option_map_or t (fin_map.get (places_of ms) q) false) (range_with_len first count)
  any_meets low ms o =
      let any = Decides-any_in_range (λ q. option_map_or t (fin_map.get (places_of ms) q) false) first count in
      same_from_decides _ _ (found_from_meets low ms o, meets_from_found ms) (
        λ e. let w = any.0 e in (w.0, w.1, w.2, rw (← get-places_of ms w.0) w.3),
        λ w. any.1 (w.0, w.1, w.2, rw (get-places_of ms w.0) w.3),
      )

-- tests that agree
list_any-same : {X : Type 0} (p q : X → Bool) → ((x : X) → p x ≡ q x) → (xs : List X) → list_any p xs ≡ list_any q xs
list_any-same p q same [] = refl
list_any-same p q same (x ∷ xs) = rw (same x, list_any-same p q same xs) refl

-- a page of a range is mapped where a mapping meets it
pub any_mapped-meets : (ms : List Mapping) (first count : ℕ) → IsOrdered 0 ms → 0 < count
    → list_any (meets first count) ms ≡ any_mapped (places_of ms) first count
any_mapped-meets ms first count o some =
    list_any-same (meets first count) (λ m. meets first count m && true)
    (λ m. elim (meets first count m) as (λ b. b ≡ (b && true)) [ true ↦ refl | false ↦ refl ]) ms
    ∙ any_meets (λ _. true) (λ _ _. refl) first count some 0 ms o
    ∙ list_any-same (λ q. option_map_or (λ _. true) (fin_map.get (places_of ms) q) false)
    (fin_map.contains_key (places_of ms))
    (λ q. elim (fin_map.get (places_of ms) q) as (λ (p : Option Place). option_map_or (λ _. true) p false ≡ is_some p) [
      | None ↦ refl
      | Some p ↦ refl
    ]) (range_with_len first count)

-- a page of a range has an access that doesn't allow the rights where a mapping that meets it has
pub any_forbids-meets : (ms : List Mapping) (first count : ℕ) (rights : Rights) → IsOrdered 0 ms → 0 < count
    → list_any (λ m. meets first count m && not (allows m.place.access rights)) ms
    ≡ any_forbids (places_of ms) first count rights
any_forbids-meets ms first count rights o some =
    any_meets (λ place. not (allows place.access rights)) (λ _ _. refl) first count some 0 ms o

-- some mapping, where a list has none
abbrev pub blank : Mapping
blank = record { first = 0; end = 0; place = record { file = 0; page = 0; rights = Read; access = Read } }

-- the pages from `start` up to `next` are mapped, and the mappings after them begin at place i
pub record IsCoveredTo (ms : List Mapping) (start next i : ℕ) : Type 0 where
  pub from : start ≤ next
  pub after : IsFirstAfter ms next i
  pub covered : (q : ℕ) → start ≤ q → q < next → IsSome (lookup q ms)

pub IsCoveredTo-start : (ms : List Mapping) (first end from to : ℕ)
    → IsOrdered 0 ms → IsMeeting ms first end from to → first ≤ end
    → IsCoveredTo ms first first from
IsCoveredTo-start ms first end from to o m le = record {
  from = omega arith;
  after = record {
    within = omega (arith, m.forward, m.within);
    before = m.before;
    after = λ j d low less. elim (cases_lt j to) [
      | inl inside ↦ m.ends j d low inside
      | inr past ↦ omega (arith, m.after j d past less, (mapping_at 0 ms o j d less).has_pages)
    ];
  };
  covered = λ q low high. absurd (omega arith);
}

-- the pages of the next mapping are mapped
pub IsCoveredTo-step : (ms : List Mapping) (start next i : ℕ) (m : Mapping) → IsOrdered 0 ms
    → IsCoveredTo ms start next i → i < length ms → m ≡ get_or ms i m → m.first ≤ next
    → IsCoveredTo ms start m.end (i + 1)
IsCoveredTo-step ms start next i m o g h is le =
    let same : (d : Mapping) → get_or ms i d ≡ m = λ d. get_or_default ms i d m h ∙ sym is in
    let past : next < m.end = omega (arith, g.after.after i m (omega arith) h, ap (λ (m : Mapping). m.end) is) in
    record {
      from = omega (arith, g.from);
      after = record {
        within = omega arith;
        before = λ j d less. elim (cases_lt j i) [
          | inl earlier ↦ omega (arith, g.after.before j d earlier)
          | inr equal ↦
              let here : (get_or ms j d).end ≡ m.end =
              ap (λ j. (get_or ms j d).end) {x = j} {y = i} (omega arith)
              ∙ ap (λ (m : Mapping). m.end) (same d) in
              omega arith
        ];
        after = λ j d low less. omega (
          arith,
          apart_at 0 ms o i j d (omega arith) less,
          (mapping_at 0 ms o j d less).has_pages,
          ap (λ (m : Mapping). m.end) (same d),
        );
      };
      covered = λ q low high. elim (cases_lt q next) [
        | inl earlier ↦ g.covered q low earlier
        | inr later ↦
            let f : IsFirstAfter ms q i =
            IsFirstAfter-later 0 ms o next q i g.after later
            (λ d h. omega (arith, ap (λ (m : Mapping). m.end) (same d))) in
            let here : covers m q ≡ true = grind (arith, nat_tests) in
            rw (lookup_at 0 ms o q i m f h, ← is, here) refl
      ];
    }

all_mapped-true : (ms : List Mapping) (first count : ℕ)
    → ((q : ℕ) → first ≤ q → q < first + count → IsSome (lookup q ms))
    → all_mapped (places_of ms) first count ≡ true
all_mapped-true ms first count each = (Decides-all_in_range (fin_map.contains_key (places_of ms)) first count).1
    (λ q low high. rw (get-places_of ms q) (each q low high))

all_mapped-false : (ms : List Mapping) (first count q : ℕ) → first ≤ q → q < first + count → lookup q ms ≡ None
    → all_mapped (places_of ms) first count ≡ false
all_mapped-false ms first count q low high none =
    by_answer (all_mapped (places_of ms) first count)
    (λ e. absurd (false≢true (subst (λ (o : Option Place). is_some o ≡ true) (get-places_of ms q ∙ none)
    ((Decides-all_in_range (fin_map.contains_key (places_of ms)) first count).0 e q low high))))
  where
    by_answer : (b : Bool) → (b ≡ true → ⊥) → b ≡ false
    by_answer true h = absurd (h refl)
    by_answer false h = refl

-- the next mapping begins after the next page
pub all_mapped-hole : (ms : List Mapping) (first count next i : ℕ) (m : Mapping) → IsOrdered 0 ms
    → IsCoveredTo ms first next i → i < length ms → m ≡ get_or ms i m → next < m.first → m.first < first + count
    → all_mapped (places_of ms) first count ≡ false
all_mapped-hole ms first count next i m o g h is less begins =
    let missed : covers m next ≡ false = grind (arith, nat_tests) in
    all_mapped-false ms first count next g.from (omega arith)
    (lookup_at 0 ms o next i m g.after h ∙ rw (← is, missed) refl)

-- no mapping is left that has pages of the range
pub all_mapped-end : (ms : List Mapping) (first count next from to i : ℕ) → IsOrdered 0 ms
    → IsMeeting ms first (first + count) from to → IsCoveredTo ms first next i → to ≤ i → i ≤ length ms
    → leb count (next - first) ≡ all_mapped (places_of ms) first count
all_mapped-end ms first count next from to i o m g past within =
    elim (cases_lt (next - first) count) [
      | inl short ↦
          let low = g.from in
          let none : lookup next ms ≡ None = elim (cases_lt i (length ms)) [
            | inl inside ↦
                let d : Mapping = get_or ms i blank in
                let begins : first + count ≤ d.first = m.after i blank past inside in
                let missed : covers d next ≡ false = grind (arith, nat_tests) in
                lookup_at 0 ms o next i blank g.after inside ∙ rw missed refl
            | inr end ↦ lookup_past ms next i g.after end
          ] in
          grind (arith, nat_tests, all_mapped-false ms first count next g.from (omega arith) none)
      | inr whole ↦
          let low = g.from in
          grind (arith, nat_tests, all_mapped-true ms first count (λ q a b. g.covered q a (omega arith)))
    ]

-- tests of the mappings that have pages of a range
pub list_any-meeting : (t : Mapping → Bool) (ms : List Mapping) (first count from to : ℕ)
    → IsMeeting ms first (first + count) from to
    → list_any t (take (to - from) (drop from ms)) ≡ list_any (λ m. meets first count m && t m) ms
list_any-meeting t ms first count from to m =
    between from (to - from) to ms (omega (arith, m.forward)) m.within m.before m.after m.ends m.begins
  where
    between : (from n to : ℕ) (ms : List Mapping) → from + n ≡ to → to ≤ length ms
        → ((j : ℕ) (d : Mapping) → j < from → (get_or ms j d).end ≤ first)
        → ((j : ℕ) (d : Mapping) → to ≤ j → j < length ms → first + count ≤ (get_or ms j d).first)
        → ((j : ℕ) (d : Mapping) → from ≤ j → j < to → first < (get_or ms j d).end)
        → ((j : ℕ) (d : Mapping) → from ≤ j → j < to → (get_or ms j d).first < first + count)
        → list_any t (take n (drop from ms)) ≡ list_any (λ m. meets first count m && t m) ms
    between zero zero zero [] same within before after ends begins = refl
    between zero zero zero (m ∷ ms) same within before after ends begins =
        let past = after 0 m (omega arith) (omega arith) in
        let missed : meets first count m ≡ false = grind (arith, nat_tests) in
        rw missed (between zero zero zero ms same (omega arith) (λ j d h. absurd (omega arith))
        (λ j d h k. after (suc j) d (omega arith) (omega arith)) (λ j d h k. absurd (omega arith))
        (λ j d h k. absurd (omega arith)))
    between zero zero (suc to) ms same within before after ends begins = absurd (omega arith)
    between zero (suc n) zero ms same within before after ends begins = absurd (omega arith)
    between (suc from) n zero ms same within before after ends begins = absurd (omega arith)
    between zero (suc n) (suc to) [] same within before after ends begins = absurd (omega arith)
    between (suc from) n (suc to) [] same within before after ends begins = absurd (omega arith)
    between zero (suc n) (suc to) (m ∷ ms) same within before after ends begins =
        let a = ends 0 m (omega arith) (omega arith) in
        let b = begins 0 m (omega arith) (omega arith) in
        let here : meets first count m ≡ true = grind (arith, nat_tests) in
        rw here (ap (λ b. t m || b) (between zero n to ms (omega arith) (omega arith) (λ j d h. absurd (omega arith))
        (λ j d h k. after (suc j) d (omega arith) (omega arith)) (λ j d h k. ends (suc j) d (omega arith) (omega arith))
        (λ j d h k. begins (suc j) d (omega arith) (omega arith))))
    between (suc from) n (suc to) (m ∷ ms) same within before after ends begins =
        let a = before 0 m (omega arith) in
        let missed : meets first count m ≡ false = grind (arith, nat_tests) in
        rw missed (between from n to ms (omega arith) (omega arith) (λ j d h. before (suc j) d (omega arith))
        (λ j d h k. after (suc j) d (omega arith) (omega arith)) (λ j d h k. ends (suc j) d (omega arith) (omega arith))
        (λ j d h k. begins (suc j) d (omega arith) (omega arith)))

-- a page of a range is mapped where some mapping has pages of it
pub any_mapped-meeting : (ms : List Mapping) (first count from to : ℕ)
    → IsOrdered 0 ms → IsMeeting ms first (first + count) from to → 0 < count
    → ltb from to ≡ any_mapped (places_of ms) first count
any_mapped-meeting ms first count from to o m some =
    some_between (to - from) ∙ list_any-meeting (λ _. true) ms first count from to m
    ∙ list_any-same (λ m. meets first count m && true) (meets first count)
    (λ m. elim (meets first count m) as (λ b. (b && true) ≡ b) [ true ↦ refl | false ↦ refl ]) ms
    ∙ any_mapped-meets ms first count o some
  where
    any_true : (xs : List Mapping) → list_any (λ _. true) xs ≡ ltb 0 (length xs)
    any_true [] = refl
    any_true (x ∷ xs) = grind (arith, nat_tests)

    some_between : (n : ℕ) → ltb from to ≡ list_any (λ _. true) (take (to - from) (drop from ms))
    some_between n =
        let size : length (take (to - from) (drop from ms)) ≡ to - from =
        omega (arith, length-take (to - from) (drop from ms), length-drop from ms, m.within) in
        grind (arith, nat_tests, any_true (take (to - from) (drop from ms)))

-- a mapping of a part of a list
pub part_at : (ms : List Mapping) (from n i : ℕ) (d : Mapping) → i < n → from + i < length ms
    → get_or (take n (drop from ms)) i d ≡ get_or ms (from + i) (get_or (take n (drop from ms)) i d)
part_at ms from n i d less within =
    get_or-take n (drop from ms) i d less ∙ get_or-drop from ms i d ∙ get_or_default ms (from + i) d _ within
