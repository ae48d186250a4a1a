-- What the list of mappings is before mappings that go on are made one: where rights were given, and where a mapping
-- was added.
use Rattle.std.proofs.Common.{◌≡◌, ℕ, ◌+◌, ◌-◌, ◌<◌, ◌≤◌, Bool, true, false, not, if◌then◌else◌, List, ◌∷◌, length}
use Rattle.std.proofs.Common.{map, get_or, take, drop, Some, None, Ok, refl, sym, ap, ◌∙◌, subst, inl, inr, arith}
use Rattle.std.specs.Prelude.{Vec}
use Rattle.std.specs.Vec.{with_items}
use Rattle.std.specs.List.{insert}
use Rattle.std.proofs.lemmas.Bool.{cases_lt, false≢true}
use Rattle.std.proofs.lemmas.Bool.Decides.{nat_tests}
use Rattle.std.proofs.lemmas.List.{with_items_is, length-map, length-take, length-drop}
use Rattle.std.proofs.lemmas.List.{length-take-le, take-append-le, take_all}
use borrow.Rule.Slice.PartMut.{put_mid}
use Rattle.mappings.specs.declared.place.Place.{Place}
use Rattle.mappings.specs.declared.place.Rights.{Rights}
use Rattle.mappings.specs.declared.mapping.Mapping.{Mapping}
use Rattle.mappings.specs.declared.page_range.PageRange.{PageRange}
use Rattle.page_entry.specs.declared.refusal.Refusal.TheVariants.{Einval, Enomem, Eacces, Overlap}
use Rattle.mappings.specs.Judgement.{is_mappable, is_user_range, add_refusal, protect_refusal, answer_unless}
use Rattle.mappings.specs.Places.{Places, allows, any_mapped, all_mapped, any_forbids}
use Rattle.mappings.specs.Places as places
use Rattle.mappings.specs.inside.Listed.{places_of, IsOrdered, IsMerged, IsKept, IsFirstAfter, IsGap, IsMeeting}
use Rattle.mappings.specs.inside.Edits.{given_rights, merged, IsSplit}
use Rattle.mappings.proofs.Lists.{lookup_overlap, any_mapped_true, IsMapping-from_mappable}
use Rattle.mappings.proofs.Lists.{IsOrdered-insert, places_of-insert}
use Rattle.mappings.proofs.Changes.{IsOrdered-with_rights_within, places_of-with_rights_within}
use Rattle.mappings.proofs.Cuts.{Neighbours-take, Neighbours-drop, IsMerged-before, IsMerged-after}
use Rattle.mappings.proofs.Cuts.{with_rights-meeting, take-put_mid_before, drop-put_mid_after}
use Rattle.mappings.proofs.Merging.{length-written, drop-append-more, places_of-merged}
use Rattle.mappings.proofs.Merging.{IsOrdered-merged, IsMerged-merged}

-- a list whose mappings may go on at two places alone, and what it maps
pub record IsNearlyMerged (list : List Mapping) (from to : ℕ) (mapped : Places) : Type 0 where
  pub ordered : IsOrdered 0 list
  pub before : IsMerged (take from list)
  pub after : IsMerged (drop to list)
  pub places : places_of list ≡ mapped

-- the list is kept once its mappings that go on are one, and maps the same
pub IsKept-merged : {list : List Mapping} {from to : ℕ} {mapped : Places} (new : List Mapping)
    → IsNearlyMerged list from to mapped → new ≡ merged list
    → IsKept new
IsKept-merged {list} new is same = record {
  ordered = subst (IsOrdered 0) (sym same) (IsOrdered-merged 0 list is.ordered);
  merged = subst IsMerged (sym same) (IsMerged-merged list);
}

pub places_of-nearly : {list : List Mapping} {from to : ℕ} {mapped : Places} (new : List Mapping)
    → IsNearlyMerged list from to mapped → new ≡ merged list
    → places_of new ≡ mapped
places_of-nearly {list} new is same = ap places_of same ∙ places_of-merged 0 list is.ordered ∙ is.places

-- the mappings that have pages of a range have other rights
pub IsNearlyMerged-rights : {Z : Type 0} (list : Vec Mapping Z)
    (old now new : List Mapping) (first count from to : ℕ) (rights : Rights)
    → 0 < count → IsSplit old list.items first count → IsMeeting list.items first (first + count) from to
    → now ≡ list.items → new ≡ map (given_rights rights) (take (to - from) (drop from now))
    → IsNearlyMerged (with_items list (put_mid from (to - from) now new)).items from to
    (places.with_rights (places_of old) first count rights)
IsNearlyMerged-rights list old now new first count from to rights some split m is same =
    let end = first + count in
    let ms = list.items in
    let le : first ≤ end = omega arith in
    let size : length new ≡ to - from = omega (
      arith,
      ap length same,
      length-map (take (to - from) (drop from now)) (given_rights rights),
      length-take (to - from) (drop from now),
      length-drop from now,
      ap length is,
      m.within,
    ) in
    let inside : to ≤ length now = omega (arith, ap length is, m.within) in
    let whole = with_items_is list (put_mid from (to - from) now new)
    (length-written now new from to m.forward inside size ∙ ap length is ∙ sym list.ok.0) in
    let written = whole ∙ ap (λ (l : List Mapping). put_mid from (to - from) l new) is in
    let changed = written
    ∙ with_rights-meeting rights ms new first end from to split.ordered split.uncut_first m
    (same ∙ ap (λ (l : List Mapping). map (given_rights rights) (take (to - from) (drop from l))) is) in
    record {
      ordered = subst (IsOrdered 0) (sym changed)
          (IsOrdered-with_rights_within first count rights end 0 ms split.ordered);
      before = subst IsMerged (sym (ap (take from) written ∙ take-put_mid_before ms new from to m.forward m.within))
          (IsMerged-before first end 0 from ms le split.ordered split.merged_but m.before);
      after = subst IsMerged (sym (ap (drop to) written ∙ drop-put_mid_after ms new from to m.forward m.within size))
          (IsMerged-after first end 0 to ms le split.ordered split.merged_but m.after);
      places = ap places_of changed
          ∙ places_of-with_rights_within first count 0 rights ms some split.ordered split.uncut_first split.uncut_end
          ∙ ap (λ (p : Places). places.with_rights p first count rights) split.same_places;
    }

-- where no page of a range is mapped there is a gap for it
pub IsGap-not_mapped : (ms : List Mapping) (first count i : ℕ) → IsOrdered 0 ms
    → IsFirstAfter ms first i → 0 < count → any_mapped (places_of ms) first count ≡ false
    → IsGap ms first (first + count) i
IsGap-not_mapped ms first count i o f some none = record {
  first_after = f;
  free = λ d h. elim (cases_lt (get_or ms i d).first (first + count)) [
    | inl over ↦
        let w = lookup_overlap 0 ms o first (first + count) i d f h (omega arith) over in
        absurd (false≢true (sym none ∙ any_mapped_true ms first count w))
    | inr free ↦ free
  ];
}

-- a new mapping in its gap
pub IsNearlyMerged-insert : (ms new : List Mapping) (range : PageRange) (place : Place) (i : ℕ)
    → IsKept ms → is_mappable range place.page ≡ true → IsGap ms range.first (range.first + range.count) i
    → new ≡ insert ms i (record { first = range.first; end = range.first + range.count; place = place })
    → IsNearlyMerged new i (i + 1) (places.with_range (places_of ms) range.first range.count place)
IsNearlyMerged-insert ms new range place i kept mappable gap same =
    let mapping : Mapping = record { first = range.first; end = range.first + range.count; place = place } in
    let pages = IsMapping-from_mappable range place mappable in
    let within : i ≤ length ms = gap.first_after.within in
    let front : length (take i ms) ≡ i = length-take-le i ms within in
    record {
      ordered = subst (IsOrdered 0) (sym same) (IsOrdered-insert mapping pages 0 ms i kept.ordered (omega arith) gap);
      before = subst IsMerged (sym (ap (take i) same
          ∙ take-append-le i (take i ms) (mapping ∷ drop i ms) (omega arith) ∙ take_all i (take i ms) (omega arith)))
          (Neighbours-take _ i ms kept.merged);
      after = subst IsMerged
          (sym (ap (drop (i + 1)) same ∙ drop-append-more (take i ms) (mapping ∷ drop i ms) (i + 1) 1 (omega arith)))
          (Neighbours-drop _ i ms kept.merged);
      places = ap places_of same ∙ places_of-insert mapping pages 0 ms i range.count kept.ordered gap refl;
    }

-- what a range and a place are that may be mapped
pub record IsFree (range : PageRange) (place : Place) (mapped : Places) : Type 0 where
  pub mappable : is_mappable range place.page ≡ true
  pub pages : 0 < range.count
  pub unmapped : any_mapped mapped range.first range.count ≡ false

pub added : (range : PageRange) (place : Place) (mapped : Places)
    → answer_unless (add_refusal mapped range place) ≡ Ok tt
    → IsFree range place mapped
added range place mapped ok =
    by_tests (is_mappable range place.page) (allows place.access place.rights)
    (any_mapped mapped range.first range.count) refl refl ok
  where
    by_tests : (a b c : Bool) → is_mappable range place.page ≡ a → any_mapped mapped range.first range.count ≡ c
        → answer_unless
        (if not a then Some Einval else (if not b then Some Eacces else (if c then Some Overlap else None))) ≡ Ok tt
        → IsFree range place mapped
    by_tests false b c e f ok = absurd (cc)
    by_tests true false c e f ok = absurd (cc)
    by_tests true true true e f ok = absurd (cc)
    by_tests true true false e f ok = record { mappable = e; pages = grind (arith, nat_tests); unmapped = f }

-- a range whose rights may change has pages
pub positive : (range : PageRange) (rights : Rights) (mapped : Places)
    → answer_unless (protect_refusal mapped range rights) ≡ Ok tt
    → 0 < range.count
positive range rights mapped ok = by_tests (is_user_range range) (all_mapped mapped range.first range.count)
    (any_forbids mapped range.first range.count rights) refl ok
  where
    by_tests : (a b c : Bool) → is_user_range range ≡ a
        → answer_unless
        (if not a then Some Einval else (if not b then Some Enomem else (if c then Some Eacces else None))) ≡ Ok tt
        → 0 < range.count
    by_tests false b c e ok = absurd (cc)
    by_tests true b c e ok = grind (arith, nat_tests)
