-- Mappings that have pages on both sides of a page's begin, in a list in which no mapping goes on where another ends.
use Rattle.std.proofs.Common.{◌≡◌, ℕ, zero, suc, ◌+◌, ◌-◌, ◌<◌, ◌≤◌, Bool, true, false}
use Rattle.std.proofs.Common.{ltb, not, ◌&&◌, ◌==◌, List, [], ◌∷◌, length, get_or, Option}
use Rattle.std.proofs.Common.{Some, None, refl, sym, ap, ◌∙◌, subst, inl, inr, arith}
use Rattle.std.proofs.lemmas.Bool.{cases_lt, false≢true}
use Rattle.std.proofs.lemmas.Bool.Decides.{nat_tests}
use Rattle.mappings.specs.declared.place.Place.{Place}
use Rattle.mappings.specs.declared.place.Rights.{Rights}
use Rattle.mappings.specs.declared.mapping.Mapping.{Mapping}
use Rattle.mappings.specs.Places.{same_rights, follows, is_among, goes_on, is_within, is_cut}
use Rattle.mappings.specs.inside.Listed.{covers, place_in, places_of, joins, Beside}
use Rattle.mappings.specs.inside.Listed.{IsMerged, IsOrdered, IsKept, IsFirstAfter}
use Rattle.mappings.specs.inside.Edits.{IsAround, HaveRights}
use Rattle.mappings.proofs.PlacesLaws.{Decides-all_in_range, get-with_rights}
use Rattle.mappings.proofs.Lists.{lookup, get-places_of, lookup_below, low_at, apart_at}
use Rattle.mappings.proofs.Changes.{follows-place_in, same_rights-itself}

-- a page that a mapping covers is mapped by it
pub lookup_covered : (low : ℕ) (ms : List Mapping) → IsOrdered low ms → (i : ℕ) (d : Mapping) (q : ℕ)
    → i < length ms → (get_or ms i d).first ≤ q → q < (get_or ms i d).end
    → lookup q ms ≡ Some (place_in (get_or ms i d) q)
lookup_covered low [] o i d q h a b = absurd (omega arith)
lookup_covered low (m ∷ ms) o zero d q h a b =
    let here : covers m q ≡ true = grind (arith, nat_tests) in
    rw here refl
lookup_covered low (m ∷ ms) o (suc i) d q h a b =
    let past = low_at m.end ms o.2 i d (omega arith) in
    let missed : covers m q ≡ false = grind (arith, nat_tests) in
    rw missed (lookup_covered m.end ms o.2 i d q (omega arith) a b)

-- a mapping goes on inside it
pub goes_on_inside : (ms : List Mapping) (page : ℕ) (m : Mapping)
    → IsOrdered 0 ms → IsAround ms page m → (q : ℕ) → m.first < q → q < m.end
    → goes_on (places_of ms) q ≡ true
goes_on_inside ms page m o is q a b =
    let e = is.found m in
    let at : (p : ℕ) → m.first ≤ p → p < m.end → lookup p ms ≡ Some (place_in m p) = λ p low high.
    lookup_covered 0 ms o is.at m p is.within (subst (λ (n : Mapping). n.first ≤ p) (sym e) low)
    (subst (λ (n : Mapping). p < n.end) (sym e) high)
    ∙ ap (λ (n : Mapping). Some (place_in n p)) e in
    rw (get-places_of ms (q - 1), get-places_of ms q, at (q - 1) (omega arith) (omega arith), at q (omega arith) b)
    (follows-place_in m q a)

follows_nothing : (p : Option Place) → follows p None ≡ false
follows_nothing None = refl
follows_nothing (Some x) = refl

-- a place doesn't follow itself
follows_itself : (p : Place) → follows (Some p) (Some p) ≡ false
follows_itself p = grind (arith, nat_tests)

-- the first place of a mapping follows the last one of the mapping before it only where it goes on from it
follows_next : (m n : Mapping) → m.first < m.end → m.end ≡ n.first
    → follows (Some (place_in m (m.end - 1))) (Some (place_in n n.first)) ≡ joins m n
follows_next m n few meet =
    let page : m.place.page + (m.end - 1 - m.first) + 1 ≡ m.place.page + (m.end - m.first) = omega arith in
    let start : n.place.page + (n.first - n.first) ≡ n.place.page = omega arith in
    let met : (m.end == n.first) ≡ true = grind (arith, nat_tests) in
    let rest = λ (k : ℕ). m.place.file == n.place.file && (k == n.place.page
    && (same_rights m.place.rights n.place.rights && same_rights m.place.access n.place.access)) in
    let flat : (a b c d : Bool) → (a && b && c && d) ≡ (a && (b && (c && d))) =
    λ a b c d. elim a as (λ a. (a && b && c && d) ≡ (a && (b && (c && d)))) [
      | true ↦ elim b as (λ b. (b && c && d) ≡ (b && (c && d))) [ true ↦ refl | false ↦ refl ]
      | false ↦ refl
    ] in
    rw (page, start) (flat (m.place.file == n.place.file) (m.place.page + (m.end - m.first) == n.place.page)
    (same_rights m.place.rights n.place.rights) (same_rights m.place.access n.place.access)
    ∙ ap (λ b. b && rest (m.place.page + (m.end - m.first))) (sym met))

abbrev IsApart : Mapping → Mapping → Type 0
IsApart before next = joins before next ≡ false

-- the page after a mapping's last one doesn't follow it where the next mapping doesn't go on from it
ends_there : (m : Mapping) (ms : List Mapping) → m.first < m.end → IsOrdered m.end ms → Beside IsApart m ms
    → follows (Some (place_in m (m.end - 1))) (lookup m.end ms) ≡ false
ends_there m [] few o apart = refl
ends_there m (n ∷ ns) few o apart =
    elim (cases_lt m.end n.first) [
      | inl less ↦
          let some = o.1.has_pages in
          let none : lookup m.end (n ∷ ns) ≡ None = lookup_below n.first (n ∷ ns) (omega arith, o.1, o.2) m.end less in
          rw none refl
      | inr most ↦
          let some = o.1.has_pages in
          let low = o.0 in
          let same : m.end ≡ n.first = omega arith in
          let here : covers n m.end ≡ true = grind (arith, nat_tests) in
          rw here (ap (λ q. follows (Some (place_in m (m.end - 1))) (Some (place_in n q))) same
          ∙ follows_next m n few same ∙ apart)
    ]

-- where two pages follow each other, a mapping has both
pub inside_from_follows : (low page : ℕ) (ms : List Mapping) → IsOrdered low ms
    → IsMerged ms → follows (lookup (page - 1) ms) (lookup page ms) ≡ true
    → (m : Mapping) × IsAround ms page m
inside_from_follows low page [] o merged e = absurd (false≢true e)
inside_from_follows low page (m ∷ ms) o merged e =
    let few = o.1.has_pages in
    elim (cases_lt page m.end) [
      | inl below ↦ elim (cases_lt m.first page) [
        | inl above ↦ (m, record { at = 0; within = omega arith; found = λ d. refl; below = above; above = below })
        | inr early ↦ absurd (false≢true (sym (not_before early) ∙ e))
      ]
      | inr past ↦
          let missed : covers m page ≡ false = grind (arith, nat_tests) in
          elim (cases_lt (page - 1) m.end) [
            | inl last ↦
                let same : page ≡ m.end = omega arith in
                let here : covers m (page - 1) ≡ true = grind (arith, nat_tests) in
                let gone : follows (lookup (page - 1) (m ∷ ms)) (lookup page (m ∷ ms)) ≡ false =
                rw (here, missed)
                (ap (λ q. follows (Some (place_in m (q - 1))) (lookup q ms)) same ∙ ends_there m ms few o.2 merged.0) in
                absurd (false≢true (sym gone ∙ e))
            | inr later ↦
                let also : covers m (page - 1) ≡ false = grind (arith, nat_tests) in
                let w = inside_from_follows m.end page ms o.2 merged.1 (sym (rw (also, missed) refl) ∙ e) in (
                  w.0,
                  record {
                    at = suc w.1.at;
                    within = omega (arith, w.1.within);
                    found = λ d. w.1.found d;
                    below = w.1.below;
                    above = w.1.above;
                  },
                )
          ]
    ]
  where
    not_before : page ≤ m.first → follows (lookup (page - 1) (m ∷ ms)) (lookup page (m ∷ ms)) ≡ false
    not_before early =
        let few = o.1.has_pages in
        elim (cases_lt page m.first) [
          | inl less ↦
              let none : lookup page (m ∷ ms) ≡ None =
              lookup_below m.first (m ∷ ms) (omega arith, o.1, o.2) page less in
              rw none (follows_nothing _)
          | inr same ↦ elim (cases_lt 0 page) [
            | inl some ↦
                let none : lookup (page - 1) (m ∷ ms) ≡ None =
                lookup_below m.first (m ∷ ms) (omega arith, o.1, o.2) (page - 1) (omega arith) in
                rw none refl
            | inr none ↦
                let here : covers m page ≡ true = grind (arith, nat_tests) in
                ap (λ q. follows (lookup q (m ∷ ms)) (lookup page (m ∷ ms))) {x = page - 1} {y = page} (omega arith)
                ∙ rw here (follows_itself (place_in m page))
          ]
        ]

not_true : (b : Bool) → (b ≡ true → ⊥) → b ≡ false
not_true true h = absurd (h refl)
not_true false h = refl

-- the mapping as it is read from the list
read_ends : {ms : List Mapping} {page : ℕ} {m : Mapping} (d : Mapping) (is : IsAround ms page m)
    → ((get_or ms is.at d).first < page) × (page < (get_or ms is.at d).end)
read_ends {ms} {page} {m} d is = (
  subst (λ (n : Mapping). n.first < page) (sym (is.found d)) is.below,
  subst (λ (n : Mapping). page < n.end) (sym (is.found d)) is.above,
)

module _ (ms : List Mapping) (kept : IsKept ms) where
  inside_of : (page : ℕ) → goes_on (places_of ms) page ≡ true → (m : Mapping) × IsAround ms page m
  inside_of page e = inside_from_follows 0 page ms kept.ordered kept.merged
      (sym (rw (get-places_of ms (page - 1), get-places_of ms page) refl) ∙ e)

  -- where the first mapping that ends after a page doesn't begin before it, none goes on there
  pub goes_on_nowhere : (page i : ℕ) → IsFirstAfter ms page i
      → ((d : Mapping) → i < length ms → page ≤ (get_or ms i d).first)
      → goes_on (places_of ms) page ≡ false
  goes_on_nowhere page i f late = not_true _ (λ e.
      let w = inside_of page e in
      let m = w.0 in
      let is = w.1 in
      let within = is.within in
      let ends = read_ends m is in
      elim (cases_lt is.at i) [
        | inl earlier ↦ omega (arith, ends.1, f.before is.at m earlier)
        | inr later ↦ elim (cases_lt i is.at) [
          | inl past ↦ omega (
            arith,
            ends.0,
            f.after i m (omega arith) (omega arith),
            apart_at 0 ms kept.ordered i is.at m past within,
          )
          | inr here ↦ omega (
            arith,
            ends.0,
            subst (λ j. page ≤ (get_or ms j m).first) {x = i} {y = is.at} (omega arith) (late m (omega arith)),
          )
        ]
      ])

  -- no mapping goes on where one begins or ends
  pub goes_on_at_end : (page : ℕ) (m : Mapping) → IsAround ms page m
      → (q : ℕ) → m.first ≤ q → q ≤ m.end → (m.first < q → q < m.end → ⊥)
      → goes_on (places_of ms) q ≡ false
  goes_on_at_end page m is q low high not_within = not_true _ (λ e.
      let also = (inside_of q e).1 in
      let mfirst : (get_or ms is.at m).first ≡ m.first = ap (λ (n : Mapping). n.first) (is.found m) in
      let mend : (get_or ms is.at m).end ≡ m.end = ap (λ (n : Mapping). n.end) (is.found m) in
      let ends = read_ends m also in
      elim (cases_lt is.at also.at) [
        | inl later ↦ omega (arith, ends.0, apart_at 0 ms kept.ordered is.at also.at m later also.within)
        | inr most ↦ elim (cases_lt also.at is.at) [
          | inl earlier ↦ omega (arith, ends.1, apart_at 0 ms kept.ordered also.at is.at m earlier is.within)
          | inr here ↦
              let first_same = ap (λ j. (get_or ms j m).first) {x = is.at} {y = also.at} (omega arith) in
              let end_same = ap (λ j. (get_or ms j m).end) {x = is.at} {y = also.at} (omega arith) in
              not_within (omega (arith, ends.0)) (omega (arith, ends.1))
        ]
      ])

  -- a page inside a mapping is one at which it is split where it has other rights
  pub is_cut-inside : (page : ℕ) (m : Mapping) (rights : Rights) → IsAround ms page m
      → is_cut (places_of ms) page rights ≡ not (same_rights m.place.rights rights)
  is_cut-inside page m rights is =
      let e = is.found m in
      let below = is.below in
      let above = is.above in
      let here : lookup page ms ≡ Some (place_in m page) =
      lookup_covered 0 ms kept.ordered is.at m page is.within
      (subst (λ (n : Mapping). n.first ≤ page) (sym e) (omega arith))
      (subst (λ (n : Mapping). page < n.end) (sym e) above)
      ∙ ap (λ (n : Mapping). Some (place_in n page)) e in
      let before : lookup (page - 1) ms ≡ Some (place_in m (page - 1)) =
      lookup_covered 0 ms kept.ordered is.at m (page - 1) is.within
      (subst (λ (n : Mapping). n.first ≤ page - 1) (sym e) (omega arith))
      (subst (λ (n : Mapping). page - 1 < n.end) (sym e) (omega arith))
      ∙ ap (λ (n : Mapping). Some (place_in n (page - 1))) e in
      let out : is_among page 1 (page - 1) ≡ false = grind (arith, nat_tests) in
      let in_range : is_among page 1 page ≡ true = grind (arith, nat_tests) in
      let went = follows-place_in m page below in
      rw (
        goes_on_inside ms page m kept.ordered is page below above,
        get-with_rights (places_of ms) page 1 rights (page - 1),
        get-with_rights (places_of ms) page 1 rights page,
        get-places_of ms (page - 1),
        get-places_of ms page,
        before,
        here,
        out,
        in_range,
      ) (grind (arith, nat_tests, went, same_rights-itself m.place.access))

  pub is_cut-nowhere : (page : ℕ) (rights : Rights) → goes_on (places_of ms) page ≡ false
      → is_cut (places_of ms) page rights ≡ false
  is_cut-nowhere page rights none = rw none refl

  -- the pages of a mapping have its rights
  pub rights_inside : (page : ℕ) (m : Mapping) (rights : Rights) → IsAround ms page m → m.place.rights ≡ rights
      → HaveRights ms m.first m.end rights
  rights_inside page m rights is same q place low high got =
      let e = is.found m in
      let here : lookup q ms ≡ Some (place_in m q) =
      lookup_covered 0 ms kept.ordered is.at m q is.within
      (subst (λ (n : Mapping). n.first ≤ q) (sym e) low) (subst (λ (n : Mapping). q < n.end) (sym e) high)
      ∙ ap (λ (n : Mapping). Some (place_in n q)) e in
      ap (λ (o : Option Place). rights_in o) (sym got ∙ get-places_of ms q ∙ here) ∙ same
    where
      rights_in : Option Place → Rights
      rights_in None = rights
      rights_in (Some p) = p.rights

  -- one mapping has a range and a page before and after it where it goes on past the end
  pub is_within-inside : (first count : ℕ) (m : Mapping) → IsAround ms first m
      → ltb count (m.end - first) ≡ is_within (places_of ms) first count
  is_within-inside first count m is =
      let all = Decides-all_in_range (goes_on (places_of ms)) first (count + 1) in
      let below = is.below in
      let above = is.above in
      elim (cases_lt count (m.end - first)) [
        | inl less ↦ grind (
          arith,
          nat_tests,
          all.1 (λ q low high. goes_on_inside ms first m kept.ordered is q (omega arith) (omega arith)),
        )
        | inr most ↦ grind (
          arith,
          nat_tests,
          not_true _
              (λ e. false≢true (sym (goes_on_at_end first m is m.end (omega arith) (omega arith) (λ a b. omega arith))
              ∙ all.0 e m.end (omega arith) (omega arith))),
        )
      ]

  pub is_within-nowhere : (first count : ℕ) → goes_on (places_of ms) first ≡ false
      → is_within (places_of ms) first count ≡ false
  is_within-nowhere first count none =
      let all = Decides-all_in_range (goes_on (places_of ms)) first (count + 1) in
      not_true _ (λ e. false≢true (sym none ∙ all.0 e first (omega arith) (omega arith)))
