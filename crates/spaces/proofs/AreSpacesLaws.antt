-- Each update keeps what every set of spaces keeps.
use Rattle.std.proofs.Common.{◌≡◌, ◌≢◌, ℕ, ◌+◌, ◌-◌, ◌<◌, ◌≤◌, ◌^◌, Bool, true, false, cond, not, eqb, ltb, ◌&&◌}
use Rattle.std.proofs.Common.{◌||◌, Option, Some, None, is_some, IsSome, refl, sym, ap, ◌∙◌, subst, inl, inr, arith}
use Rattle.std.specs.Option.{option_map}
use Rattle.std.specs.FinMap as maps
use Rattle.std.proofs.lemmas.Bool.{cases_eq, false≢true}
use Rattle.std.proofs.lemmas.Bool.Decides.{nat_tests}
use Rattle.page_entry.specs.Entry.{Mapped, with_writable_of}
use Rattle.page_entry.specs.declared.refusal.Refusal.{Refusal}
use Rattle.page_entry.specs.declared.refusal.Refusal.TheVariants.{Einval}
use Rattle.mappings.specs.declared.place.Place.{Place}
use Rattle.mappings.specs.declared.place.Rights.{Rights}
use Rattle.mappings.specs.declared.page_range.PageRange.{PageRange}
use Rattle.mappings.specs.Places.{Places, advanced, is_among, may_write}
use Rattle.mappings.specs.Judgement.{is_mappable, add_refusal}
use Rattle.spaces.specs.Spaces.{Spaces, empty_space, has_space, entry_at, place_at, first_spaces, with_space}
use Rattle.spaces.specs.Spaces.{with_entry, with_mapping, without_mapping, EditsEntries, SetsRights, AreSpaces}
use Rattle.spaces.specs.Requests.{is_user_space}
use Rattle.spaces.proofs.SpacesLaws.{has_space-first_spaces, entry_at-first_spaces, place_at-first_spaces}
use Rattle.spaces.proofs.SpacesLaws.{has_space-with_space, entry_at-create, place_at-create}
use Rattle.spaces.proofs.SpacesLaws.{has_space-remove, entry_at-remove, place_at-remove, has_space-place_at}
use Rattle.spaces.proofs.SpacesLaws.{entry_at-with_entry, place_at-with_entry, has_space-with_entry}
use Rattle.spaces.proofs.SpacesLaws.{entry_at-with_mapping, place_at-with_mapping, has_space-with_mapping}
use Rattle.spaces.proofs.SpacesLaws.{entry_at-without_mapping, place_at-without_mapping}
use Rattle.spaces.proofs.SpacesLaws.{has_space-without_mapping, with_rights_of, place_at-SetsRights}

-- what isn't there is none
none_from : {X : Type 0} (o : Option X) → (IsSome o → ⊥) → o ≡ None
none_from None h = refl
none_from (Some x) h = absurd (h refl)

-- what is there is some
pub some_from : {X : Type 0} (o : Option X) → IsSome o → (x : X) × (o ≡ Some x)
some_from None h = absurd (false≢true h)
some_from (Some x) h = (x, refl)

pub is_some_from : {X : Type 0} (o : Option X) (x : X) → o ≡ Some x → IsSome o
is_some_from o x e = ap is_some e

-- a user space isn't space 0, and is there
pub user_space : (m : Spaces) (n : ℕ) → is_user_space m n ≡ true → (0 < n) × (has_space m n ≡ true)
user_space m n is = (grind (arith, nat_tests), right (ltb 0 n) is)
  where
    right : (b : Bool) → (b && has_space m n) ≡ true → has_space m n ≡ true
    right true h = h
    right false h = cc

-- a range that may be mapped ends with the user addresses at the latest
pub mappable_ends : (places : Places) (range : PageRange) (place : Place) → add_refusal places range place ≡ None
    → range.first + range.count ≤ 2 ^ 35
mappable_ends places range place none =
    let mappable = may (is_mappable range place.page) _ none in
    grind (arith, nat_tests)
  where
    may : (b : Bool) (o : Option Refusal) → cond (not b) (Some Einval) o ≡ None → b ≡ true
    may true o h = refl
    may false o h = cc

-- Where the same spaces are there and fewer pages are mapped, it is enough that entries stand where pages are mapped.
module _ (old new : Spaces) (are : AreSpaces old) (there : (q : ℕ) → has_space new q ≡ has_space old q)
    (fewer : (q at : ℕ) → IsSome (place_at new q at) → IsSome (place_at old q at))
    (mapped : (q at : ℕ) → IsSome (entry_at new q at) → IsSome (place_at new q at)) where
  fewer_are : AreSpaces new
  fewer_are = record {
    first = there 0 ∙ are.first;
    nowhere = λ page.
        none_from (place_at new 0 page) (λ some. false≢true (sym (ap is_some (are.nowhere page)) ∙ fewer 0 page some));
    small = λ q is. are.small q (sym (there q) ∙ is);
    user = λ q page place is. let was = some_from (place_at old q page) (fewer q page (is_some_from _ place is)) in
        are.user q page was.0 was.1;
    mapped = λ q page entry is. some_from (place_at new q page) (mapped q page (is_some_from _ entry is));
  }

-- an entry of sound spaces stands where a page is mapped
pub entry_is_mapped : (m : Spaces) → AreSpaces m → (q at : ℕ) → IsSome (entry_at m q at) → IsSome (place_at m q at)
entry_is_mapped m are q at some =
    let e = some_from (entry_at m q at) some in
    let p = are.mapped q at e.0 e.1 in
    is_some_from _ p.0 p.1

pub AreSpaces-first_spaces : AreSpaces first_spaces
AreSpaces-first_spaces = record {
  first = has_space-first_spaces 0;
  nowhere = λ page. place_at-first_spaces 0 page;
  small = λ q is. let zero_only = has_space-first_spaces q in grind (arith, nat_tests);
  user = λ q page place is. absurd (let none = place_at-first_spaces q page in cc);
  mapped = λ q page entry is. absurd (let none = entry_at-first_spaces q page in cc);
}

pub AreSpaces-create : (m : Spaces) (n : ℕ) → AreSpaces m → n < 4096 → has_space m n ≡ false
    → AreSpaces (with_space m n empty_space)
AreSpaces-create m n are small free = record {
  first = has_space-with_space m n empty_space 0 ∙ or_true (eqb 0 n) (has_space m 0) are.first;
  nowhere = λ page. place_at-create m n free 0 page ∙ are.nowhere page;
  small = λ q is. elim (cases_eq q n) [
    | inl same ↦ omega arith
    | inr other ↦ are.small q (let there = has_space-with_space m n empty_space q in grind (arith, nat_tests))
  ];
  user = λ q page place is. are.user q page place (sym (place_at-create m n free q page) ∙ is);
  mapped = λ q page entry is.
      let p = are.mapped q page entry (sym (entry_at-create m n free q page) ∙ is) in
      (p.0, place_at-create m n free q page ∙ p.1);
}
  where
    or_true : (a b : Bool) → b ≡ true → (a || b) ≡ true
    or_true true b h = refl
    or_true false b h = h

-- what isn't at the pages that were left out was there before
left : {X : Type 0} (b : Bool) (o : Option X) → IsSome (cond b None o) → (b ≡ false) × IsSome o
left true o h = absurd (false≢true h)
left false o h = (refl, h)

pub AreSpaces-remove : (m : Spaces) (n : ℕ) → AreSpaces m → n ≢ 0 → AreSpaces (maps.remove m n)
AreSpaces-remove m n are user = record {
  first = has_space-remove m n 0
      ∙ (let other : eqb 0 n ≡ false = grind (arith, nat_tests) in ap (λ b. not b && has_space m 0) other ∙ are.first);
  nowhere = λ page. place_at-remove m n 0 page ∙ (let other : eqb 0 n ≡ false = grind (arith, nat_tests) in
      ap (λ b. cond b None (place_at m 0 page)) other ∙ are.nowhere page);
  small = λ q is. are.small q (right (not (eqb q n)) (has_space m q) (sym (has_space-remove m n q) ∙ is));
  user = λ q page place is.
      let was = some_from _
      (left (eqb q n) (place_at m q page) (is_some_from _ place (sym (place_at-remove m n q page) ∙ is))).1 in
      are.user q page was.0 was.1;
  mapped = λ q page entry is.
      let l = left (eqb q n) (entry_at m q page) (is_some_from _ entry (sym (entry_at-remove m n q page) ∙ is)) in
      let e = some_from _ l.1 in
      let p = are.mapped q page e.0 e.1 in
      (p.0, place_at-remove m n q page ∙ ap (λ b. cond b None (place_at m q page)) l.0 ∙ p.1);
}
  where
    right : (a b : Bool) → (a && b) ≡ true → b ≡ true
    right true b h = h
    right false b h = cc

pub AreSpaces-with_entry : (m : Spaces) (n page : ℕ) (entry : Option Mapped) → AreSpaces m → IsSome (place_at m n page)
    → AreSpaces (with_entry m n page entry)
AreSpaces-with_entry m n page entry are some =
    fewer_are m (with_entry m n page entry) are (has_space-with_entry m n page entry (has_space-place_at m n page some))
    (λ q at is. subst IsSome (place_at-with_entry m n page entry q at) is)
    (λ q at is. subst IsSome (sym (place_at-with_entry m n page entry q at))
    (by_test q at (eqb q n) refl (eqb at page) refl (subst IsSome (entry_at-with_entry m n page entry q at) is)))
  where
    by_test : (q at : ℕ) (a : Bool) → eqb q n ≡ a → (b : Bool)
        → eqb at page ≡ b → IsSome (cond (a && b) entry (entry_at m q at))
        → IsSome (place_at m q at)
    by_test q at true same true too is =
        let e : n ≡ q = grind (arith, nat_tests) in
        let f : page ≡ at = grind (arith, nat_tests) in
        subst (λ k. IsSome (place_at m k at)) e (subst (λ k. IsSome (place_at m n k)) f some)
    by_test q at true same false other is = entry_is_mapped m are q at is
    by_test q at false other b h is = entry_is_mapped m are q at is

-- a page that is mapped stays so, whatever else is
mapped_too : {X : Type 0} (b : Bool) (x : X) (o : Option X) → IsSome o → IsSome (cond b (Some x) o)
mapped_too true x o h = refl
mapped_too false x o h = h

pub AreSpaces-with_mapping : (m : Spaces) (n : ℕ) (range : PageRange) (place : Place)
    → AreSpaces m → is_user_space m n ≡ true → range.first + range.count ≤ 2 ^ 35
    → AreSpaces (with_mapping m n range place)
AreSpaces-with_mapping m n range place are user fits =
    let there = user_space m n user in
    record {
      first = has_space-with_mapping m n range place there.1 0 ∙ are.first;
      nowhere = λ page. place_at-with_mapping m n range place 0 page
          ∙ (let other : eqb 0 n ≡ false = grind (
            arith,
            nat_tests,
            there.0,
          ) in ap (λ b. cond (b && is_among range.first range.count page)
          (Some (advanced place (page - range.first))) (place_at m 0 page)) other
          ∙ are.nowhere page);
      small = λ q is. are.small q (sym (has_space-with_mapping m n range place there.1 q) ∙ is);
      user = λ q page p is. below q page p (eqb q n) (is_among range.first range.count page) refl
          (sym (place_at-with_mapping m n range place q page) ∙ is);
      mapped = λ q page entry is.
          let p = are.mapped q page entry (sym (entry_at-with_mapping m n range place q page) ∙ is) in
          some_from _ (subst IsSome (sym (place_at-with_mapping m n range place q page))
          (mapped_too (eqb q n && is_among range.first range.count page) (advanced place (page - range.first)) _
          (is_some_from _ p.0 p.1)));
    }
  where
    below : (q page : ℕ) (p : Place) (a b : Bool) → is_among range.first range.count page ≡ b
        → cond (a && b) (Some (advanced place (page - range.first))) (place_at m q page) ≡ Some p
        → page < 2 ^ 35
    below q page p true true within is =
        let low : page < range.first + range.count = grind (arith, nat_tests) in
        omega arith
    below q page p true false within is = are.user q page p is
    below q page p false b within is = are.user q page p is

pub AreSpaces-without_mapping : (m : Spaces) (n : ℕ) (range : PageRange) → AreSpaces m → has_space m n ≡ true
    → AreSpaces (without_mapping m n range)
AreSpaces-without_mapping m n range are there =
    let within : ℕ → ℕ → Bool = λ q at. eqb q n && is_among range.first range.count at in
    fewer_are m (without_mapping m n range) are (has_space-without_mapping m n range there)
    (λ q at is. (left (within q at) (place_at m q at) (subst IsSome (place_at-without_mapping m n range q at) is)).1)
    (λ q at is.
    let l = left (within q at) (entry_at m q at) (subst IsSome (entry_at-without_mapping m n range q at) is) in
    subst IsSome (sym (place_at-without_mapping m n range q at))
    (subst (λ b. IsSome (cond b None (place_at m q at))) (sym l.0) (entry_is_mapped m are q at l.1)))

pub AreSpaces-EditsEntries : (edit : ℕ → ℕ → Option Mapped → Option Mapped) (old new : Spaces)
    → AreSpaces old → EditsEntries edit old new → ((q at : ℕ) → edit q at None ≡ None)
    → AreSpaces new
AreSpaces-EditsEntries edit old new are edits absent =
    fewer_are old new are edits.same_spaces
    (λ q at is. subst (λ places. IsSome (maps.get places at)) (edits.same_places q) is)
    (λ q at is. subst (λ places. IsSome (maps.get places at)) (sym (edits.same_places q))
    (entry_is_mapped old are q at (was q at (entry_at old q at) refl (subst IsSome (edits.entries q at) is))))
  where
    was : (q at : ℕ) (e : Option Mapped) → entry_at old q at ≡ e → IsSome (edit q at (entry_at old q at))
        → IsSome (entry_at old q at)
    was q at None none is = absurd (false≢true (subst IsSome (ap (edit q at) none ∙ absent q at) is))
    was q at (Some e) some is = is_some_from _ e some

pub AreSpaces-SetsRights : (pcid : ℕ) (range : PageRange) (rights : Rights) (old new : Spaces)
    → AreSpaces old → SetsRights pcid range rights old new
    → AreSpaces new
AreSpaces-SetsRights pcid range rights old new are sets =
    let within : ℕ → ℕ → Bool = λ q at. eqb q pcid && is_among range.first range.count at in
    fewer_are old new are sets.same_spaces
    (λ q at is. placed (within q at) (place_at old q at)
    (subst IsSome (place_at-SetsRights pcid range rights old new sets q at) is))
    (λ q at is.
    subst IsSome (sym (place_at-SetsRights pcid range rights old new sets q at))
    (still (within q at) (place_at old q at) (entry_is_mapped old are q at
    (was (within q at && not (may_write rights)) (entry_at old q at) (subst IsSome (sets.entries q at) is)))))
  where
    placed : (b : Bool) (o : Option Place) → IsSome (cond b (option_map (with_rights_of rights) o) o) → IsSome o
    placed true None h = h
    placed true (Some p) h = refl
    placed false o h = h

    still : (b : Bool) (o : Option Place) → IsSome o → IsSome (cond b (option_map (with_rights_of rights) o) o)
    still true None h = h
    still true (Some p) h = refl
    still false o h = h

    was : (b : Bool) (e : Option Mapped) → IsSome (cond b (with_writable_of e false) e) → IsSome e
    was true None h = h
    was true (Some e) h = refl
    was false e h = h
