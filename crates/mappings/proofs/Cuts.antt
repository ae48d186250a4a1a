-- The parts of a list before and after the mappings that have pages of a range.
use Rattle.std.proofs.Common.{◌≡◌, ℕ, zero, suc, ◌+◌, ◌-◌, ◌<◌, ◌≤◌, true, false, ◌&&◌, leb, ltb, List, [], ◌∷◌}
use Rattle.std.proofs.Common.{◌++◌, length, map, filter, get_or, take, drop, refl, ap, ◌∙◌, inl, inr, ◌⊎◌, arith}
use Rattle.std.specs.List.{remove_range}
use Rattle.std.proofs.lemmas.Bool.Decides.{nat_tests}
use Rattle.std.proofs.lemmas.List.{length-take-le, take-append-le, take_all}
use borrow.Rule.Slice.PartMut.{put_mid, Post-is}
use Rattle.mappings.specs.declared.place.Rights.{Rights}
use Rattle.mappings.specs.declared.mapping.Mapping.{Mapping}
use Rattle.mappings.specs.inside.Listed.{joins, Beside, Neighbours, IsMerged, IsOrdered, IsMeeting}
use Rattle.mappings.proofs.Lists.{mapping_at}
use Rattle.mappings.proofs.Merging.{drop-append-more}
use Rattle.mappings.specs.inside.Edits.{is_outside, given_rights, with_rights_within, IsUncut, IsMergedBut}

module _ (R : Mapping → Mapping → Type 0) where
  pub Neighbours-take : (n : ℕ) (ms : List Mapping) → Neighbours R ms → Neighbours R (take n ms)
  Neighbours-take zero ms each = tt
  Neighbours-take (suc n) [] each = tt
  Neighbours-take (suc zero) (m ∷ ms) each = (tt, tt)
  Neighbours-take (suc (suc n)) (m ∷ []) each = each
  Neighbours-take (suc (suc n)) (m ∷ k ∷ ms) each = (each.0, Neighbours-take (suc n) (k ∷ ms) each.1)

  pub Neighbours-drop : (n : ℕ) (ms : List Mapping) → Neighbours R ms → Neighbours R (drop n ms)
  Neighbours-drop zero ms each = each
  Neighbours-drop (suc n) [] each = tt
  Neighbours-drop (suc n) (m ∷ ms) each = Neighbours-drop n ms each.1

abbrev IsApart : Mapping → Mapping → Type 0
IsApart before next = joins before next ≡ false

not_joined : (m n : Mapping) (p q : ℕ) → (joins m n ≡ true → (n.first ≡ p) ⊎ (n.first ≡ q))
    → (n.first ≡ p → ⊥) → (n.first ≡ q → ⊥)
    → joins m n ≡ false
not_joined m n p q only a b =
    elim (joins m n) as (λ t. (t ≡ true → (n.first ≡ p) ⊎ (n.first ≡ q)) → t ≡ false) [
      | true ↦ λ only. elim (only refl) [ inl e ↦ absurd (a e) | inr e ↦ absurd (b e) ]
      | false ↦ λ only. refl
    ] only

-- mappings that end at the first of two pages at the latest go on nowhere
pub IsMerged-before : (p q low n : ℕ) (ms : List Mapping) → p ≤ q → IsOrdered low ms
    → IsMergedBut p q ms → ((j : ℕ) (d : Mapping) → j < n → (get_or ms j d).end ≤ p)
    → IsMerged (take n ms)
IsMerged-before p q low zero ms le o but before = tt
IsMerged-before p q low (suc n) [] le o but before = tt
IsMerged-before p q low (suc zero) (m ∷ ms) le o but before = (tt, tt)
IsMerged-before p q low (suc (suc n)) (m ∷ []) le o but before = (tt, tt)
IsMerged-before p q low (suc (suc n)) (m ∷ k ∷ ms) le o but before =
    let some = o.2.1.has_pages in
    let early = before 1 k (omega arith) in (
      not_joined m k p q but.0 (λ e. omega arith) (λ e. omega arith),
      IsMerged-before p q m.end (suc n) (k ∷ ms) le o.2 but.1 (λ j d h. before (suc j) d (omega arith)),
    )

-- nor do those that begin at the second of them at the earliest
IsMerged-from : (p q low : ℕ) (ms : List Mapping) → p ≤ q → IsOrdered low ms
    → IsMergedBut p q ms → ((j : ℕ) (d : Mapping) → j < length ms → q ≤ (get_or ms j d).first)
    → IsMerged ms
IsMerged-from p q low [] le o but after = tt
IsMerged-from p q low (m ∷ []) le o but after = (tt, tt)
IsMerged-from p q low (m ∷ k ∷ ms) le o but after =
    let few = o.1.has_pages in
    let bound = o.2.0 in
    let late = after 0 m (omega arith) in (
      not_joined m k p q but.0 (λ e. omega arith) (λ e. omega arith),
      IsMerged-from p q m.end (k ∷ ms) le o.2 but.1 (λ j d h. after (suc j) d (omega arith)),
    )

pub IsMerged-after : (p q low n : ℕ) (ms : List Mapping) → p ≤ q → IsOrdered low ms
    → IsMergedBut p q ms → ((j : ℕ) (d : Mapping) → n ≤ j → j < length ms → q ≤ (get_or ms j d).first)
    → IsMerged (drop n ms)
IsMerged-after p q low zero ms le o but after = IsMerged-from p q low ms le o but (λ j d h. after j d (omega arith) h)
IsMerged-after p q low (suc n) [] le o but after = tt
IsMerged-after p q low (suc n) (m ∷ ms) le o but after =
    IsMerged-after p q m.end n ms le o.2 but.1 (λ j d h k. after (suc j) d (omega arith) (omega arith))

-- what is left without the mappings of a range goes on nowhere
pub IsMerged-removed : (p q low from to : ℕ) (ms : List Mapping) → p < q → IsOrdered low ms → IsMerged (take from ms)
    → IsMerged (drop to ms) → from ≤ to → ((j : ℕ) (d : Mapping) → j < from → (get_or ms j d).end ≤ p)
    → ((j : ℕ) (d : Mapping) → to ≤ j → j < length ms → q ≤ (get_or ms j d).first)
    → IsMerged (take from ms ++ drop to ms)
IsMerged-removed p q low zero to ms less o front back forward before after = back
IsMerged-removed p q low (suc from) zero ms less o front back forward before after = absurd (omega arith)
IsMerged-removed p q low (suc from) (suc to) [] less o front back forward before after = tt
IsMerged-removed p q low (suc zero) (suc to) (m ∷ ms) less o front back forward before after =
    (apart (drop to ms) (λ d h. first_after to ms (λ j d h k. after (suc j) d (omega arith) (omega arith)) d h), back)
  where
    first_after : (to : ℕ) (ms : List Mapping)
        → ((j : ℕ) (d : Mapping) → to ≤ j → j < length ms → q ≤ (get_or ms j d).first)
        → (d : Mapping) → 0 < length (drop to ms)
        → q ≤ (get_or (drop to ms) 0 d).first
    first_after zero ms after d h = after 0 d (omega arith) h
    first_after (suc to) [] after d h = absurd (omega arith)
    first_after (suc to) (m ∷ ms) after d h =
        first_after to ms (λ j d h k. after (suc j) d (omega arith) (omega arith)) d h

    apart : (ms : List Mapping) → ((d : Mapping) → 0 < length ms → q ≤ (get_or ms 0 d).first) → Beside IsApart m ms
    apart [] late = tt
    apart (k ∷ ms) late =
        let early = before 0 m (omega arith) in
        let high = late k (omega arith) in
        grind (arith, nat_tests)
IsMerged-removed p q low (suc (suc from)) (suc to) (m ∷ []) less o front back forward before after =
    (rest_of to, none to)
  where
    rest_of : (to : ℕ) → Beside IsApart m (drop to [])
    rest_of zero = tt
    rest_of (suc to) = tt

    none : (to : ℕ) → IsMerged (drop to [])
    none zero = tt
    none (suc to) = tt
IsMerged-removed p q low (suc (suc from)) (suc to) (m ∷ k ∷ ms) less o front back forward before after = (
  front.0,
  IsMerged-removed p q m.end (suc from) to (k ∷ ms) less o.2 front.1 back (omega arith)
      (λ j d h. before (suc j) d (omega arith)) (λ j d h i. after (suc j) d (omega arith) (omega arith)),
)

-- the mappings that have no pages of a range are those outside the places of the others
pub removed-outside : (first end from n to : ℕ) (ms : List Mapping) → from + n ≡ to
    → to ≤ length ms → ((j : ℕ) (d : Mapping) → j < from → (get_or ms j d).end ≤ first)
    → ((j : ℕ) (d : Mapping) → to ≤ j → j < length ms → end ≤ (get_or ms j d).first)
    → ((j : ℕ) (d : Mapping) → from ≤ j → j < to → first < (get_or ms j d).end)
    → ((j : ℕ) (d : Mapping) → from ≤ j → j < to → (get_or ms j d).first < end)
    → take from ms ++ drop to ms ≡ filter (is_outside first end) ms
removed-outside first end zero zero zero [] same within before after ends begins = refl
removed-outside first end zero zero zero (m ∷ ms) same within before after ends begins =
    let late = after 0 m (omega arith) (omega arith) in
    let kept : is_outside first end m ≡ true = grind (arith, nat_tests) in
    rw kept (ap (λ l. m ∷ l) (removed-outside first end zero zero zero ms same (omega arith)
    (λ j d h. absurd (omega arith)) (λ j d h k. after (suc j) d (omega arith) (omega arith))
    (λ j d h k. absurd (omega arith)) (λ j d h k. absurd (omega arith))))
removed-outside first end zero zero (suc to) ms same within before after ends begins = absurd (omega arith)
removed-outside first end zero (suc n) zero ms same within before after ends begins = absurd (omega arith)
removed-outside first end (suc from) n zero ms same within before after ends begins = absurd (omega arith)
removed-outside first end zero (suc n) (suc to) [] same within before after ends begins = absurd (omega arith)
removed-outside first end (suc from) n (suc to) [] same within before after ends begins = absurd (omega arith)
removed-outside first end zero (suc n) (suc to) (m ∷ ms) same within before after ends begins =
    let a = ends 0 m (omega arith) (omega arith) in
    let b = begins 0 m (omega arith) (omega arith) in
    let gone : is_outside first end m ≡ false = grind (arith, nat_tests) in
    rw gone (removed-outside first end zero n to ms (omega arith) (omega arith) (λ j d h. absurd (omega arith))
    (λ j d h k. after (suc j) d (omega arith) (omega arith)) (λ j d h k. ends (suc j) d (omega arith) (omega arith))
    (λ j d h k. begins (suc j) d (omega arith) (omega arith)))
removed-outside first end (suc from) n (suc to) (m ∷ ms) same within before after ends begins =
    let early = before 0 m (omega arith) in
    let kept : is_outside first end m ≡ true = grind (arith, nat_tests) in
    rw kept (ap (λ l. m ∷ l) (removed-outside first end from n to ms (omega arith) (omega arith)
    (λ j d h. before (suc j) d (omega arith)) (λ j d h k. after (suc j) d (omega arith) (omega arith))
    (λ j d h k. ends (suc j) d (omega arith) (omega arith)) (λ j d h k. begins (suc j) d (omega arith) (omega arith))))

pub remove_range-outside : (ms : List Mapping) (first end from to : ℕ) → IsMeeting ms first end from to
    → remove_range ms from to ≡ filter (is_outside first end) ms
remove_range-outside ms first end from to m = removed-outside first end from (to - from) to ms
    (omega (arith, m.forward)) m.within m.before m.after m.ends m.begins

-- no mapping has pages before a page that it doesn't begin at
IsUncut-at : (page : ℕ) (ms : List Mapping) → IsUncut page ms
    → (j : ℕ) (d : Mapping) → j < length ms → (get_or ms j d).first < page
    → (get_or ms j d).end ≤ page
IsUncut-at page [] u j d h less = absurd (omega arith)
IsUncut-at page (m ∷ ms) u zero d h less = u.0 less
IsUncut-at page (m ∷ ms) u (suc j) d h less = IsUncut-at page ms u.1 j d (omega arith) less

-- a function that is another one at some places, which changes nothing at the others
map_between : {X : Type 0} (f g : X → X) (from n to : ℕ) (xs : List X) → from + n ≡ to
    → to ≤ length xs → ((j : ℕ) (d : X) → j < from → g (get_or xs j d) ≡ get_or xs j d)
    → ((j : ℕ) (d : X) → from ≤ j → j < to → f (get_or xs j d) ≡ g (get_or xs j d))
    → ((j : ℕ) (d : X) → to ≤ j → j < length xs → g (get_or xs j d) ≡ get_or xs j d)
    → take from xs ++ (map f (take n (drop from xs)) ++ drop to xs) ≡ map g xs
map_between f g zero zero zero [] same within before inside after = refl
map_between f g zero zero zero (x ∷ xs) same within before inside after =
    let rest = map_between f g zero zero zero xs same (omega arith) (λ j d h. absurd (omega arith))
    (λ j d h k. absurd (omega arith)) (λ j d h k. after (suc j) d (omega arith) (omega arith)) in
    let here = after 0 x (omega arith) (omega arith) in
    rw here (ap (λ ys. x ∷ ys) rest)
map_between f g zero zero (suc to) xs same within before inside after = absurd (omega arith)
map_between f g zero (suc n) zero xs same within before inside after = absurd (omega arith)
map_between f g (suc from) n zero xs same within before inside after = absurd (omega arith)
map_between f g zero (suc n) (suc to) [] same within before inside after = absurd (omega arith)
map_between f g (suc from) n (suc to) [] same within before inside after = absurd (omega arith)
map_between f g zero (suc n) (suc to) (x ∷ xs) same within before inside after =
    let rest = map_between f g zero n to xs (omega arith) (omega arith)
    (λ j d h. absurd (omega arith)) (λ j d h k. inside (suc j) d (omega arith) (omega arith))
    (λ j d h k. after (suc j) d (omega arith) (omega arith)) in
    let here = inside 0 x (omega arith) (omega arith) in
    λ i. here i ∷ rest i
map_between f g (suc from) n (suc to) (x ∷ xs) same within before inside after =
    let rest = map_between f g from n to xs (omega arith) (omega arith)
    (λ j d h. before (suc j) d (omega arith)) (λ j d h k. inside (suc j) d (omega arith) (omega arith))
    (λ j d h k. after (suc j) d (omega arith) (omega arith)) in
    let here = before 0 x (omega arith) in
    rw here (ap (λ ys. x ∷ ys) rest)

-- the rights given to the mappings that have pages of a range are those given to the mappings that begin within it
pub with_rights-meeting : (rights : Rights) (ms new : List Mapping) (first end from to : ℕ)
    → IsOrdered 0 ms → IsUncut first ms → IsMeeting ms first end from to
    → new ≡ map (given_rights rights) (take (to - from) (drop from ms))
    → put_mid from (to - from) ms new ≡ map (with_rights_within first end rights) ms
with_rights-meeting rights ms new first end from to o uncut m same =
    rw (same, Post-is from to ms m.forward) (map_between (given_rights rights)
    (with_rights_within first end rights) from (to - from) to ms (omega (arith, m.forward)) m.within
    (λ j d h.
    let early = m.before j d h in
    let few = (mapping_at 0 ms o j d (omega (arith, m.forward, m.within))).has_pages in
    let outside : (leb first (get_or ms j d).first && ltb (get_or ms j d).first end) ≡ false =
    grind (arith, nat_tests) in
    rw outside refl)
    (λ j d h k.
    let low = m.ends j d h k in
    let high = m.begins j d h k in
    let apart = IsUncut-at first ms uncut j d (omega (arith, m.within)) in
    let inside : (leb first (get_or ms j d).first && ltb (get_or ms j d).first end) ≡ true = grind (arith, nat_tests) in
    rw inside refl)
    (λ j d h k.
    let late = m.after j d h k in
    let outside : (leb first (get_or ms j d).first && ltb (get_or ms j d).first end) ≡ false =
    grind (arith, nat_tests) in
    rw outside refl))

-- the parts before and after a part that was written stay
pub take-put_mid_before : {X : Type 0} (xs new : List X) (from to : ℕ) → from ≤ to → to ≤ length xs
    → take from (put_mid from (to - from) xs new) ≡ take from xs
take-put_mid_before xs new from to le within =
    let front : length (take from xs) ≡ from = length-take-le from xs (omega arith) in
    rw (Post-is from to xs le)
    (take-append-le from (take from xs) (new ++ drop to xs) (omega arith) ∙ take_all from (take from xs) (omega arith))

pub drop-put_mid_after : {X : Type 0} (xs new : List X) (from to : ℕ)
    → from ≤ to → to ≤ length xs → length new ≡ to - from
    → drop to (put_mid from (to - from) xs new) ≡ drop to xs
drop-put_mid_after xs new from to le within size =
    let front : length (take from xs) ≡ from = length-take-le from xs (omega arith) in
    rw (Post-is from to xs le) (drop-append-more (take from xs) (new ++ drop to xs) to (to - from) (omega arith)
    ∙ drop-append-more new (drop to xs) (to - from) 0 (omega arith))
