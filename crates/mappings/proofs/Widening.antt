-- A range with all pages of the mappings at its ends that have the rights already.
use Rattle.std.proofs.Common.{◌≡◌, ℕ, ◌+◌, ◌-◌, ◌<◌, ◌≤◌, ◌^◌, true, false, not, if◌then◌else◌}
use Rattle.std.proofs.Common.{List, Option, Some, None, refl, sym, ap, ◌∙◌, inl, inr, arith}
use Rattle.std.specs.Option.{option_map}
use Rattle.std.specs.FinMap as fin_map
use Rattle.std.specs.Cmp.{nat_cmp_total}
use Rattle.std.proofs.lemmas.Bool.{cases_lt}
use Rattle.std.proofs.lemmas.Bool.Decides.{nat_tests}
use Rattle.mappings.specs.declared.place.Place.{Place}
use Rattle.mappings.specs.declared.place.Rights.{Rights}
use Rattle.mappings.specs.declared.mapping.Mapping.{Mapping}
use Rattle.mappings.specs.Places.{is_among, with_rights, same_rights, goes_on, is_cut}
use Rattle.mappings.specs.inside.Listed.{places_of, IsKept}
use Rattle.mappings.specs.inside.Edits.{HaveRights, IsAround, HaveRightsAround, IsWidened}
use Rattle.mappings.specs.declared.page_range.PageRange.{PageRange}
use Rattle.mappings.proofs.PlacesLaws.{get-with_rights}
use Rattle.mappings.proofs.Lists.{mapping_at}
use Rattle.mappings.proofs.Merging.{same_rights-is}
use Rattle.mappings.proofs.Inside.{goes_on_inside, goes_on_at_end, is_cut-inside, rights_inside}

-- pages that have the rights may be given them
pub same_widened : (ms : List Mapping) (rights : Rights) (first count low n : ℕ) → low ≤ first
    → first + count ≤ low + n → HaveRights ms low first rights → HaveRights ms (first + count) (low + n) rights
    → with_rights (places_of ms) low n rights ≡ with_rights (places_of ms) first count rights
same_widened ms rights first count low n begins ends before after =
    fin_map.same_map nat_cmp_total fin_map.nat_cmp-IsAntisymmetric _ _ (λ q.
    get-with_rights (places_of ms) low n rights q
    ∙ at q (fin_map.get (places_of ms) q) refl
    ∙ sym (get-with_rights (places_of ms) first count rights q))
  where
    at : (q : ℕ) (o : Option Place) → fin_map.get (places_of ms) q ≡ o
        → option_map (λ place. if is_among low n q then record place { rights = rights } else place) o
        ≡ option_map (λ place. if is_among first count q then record place { rights = rights } else place) o
    at q None e = refl
    at q (Some place) e =
        let whole : place.rights ≡ rights → record place { rights = rights } ≡ place =
        λ same. ap (λ r. record place { rights = r }) (sym same) in
        elim (cases_lt q low) [
          | inl less ↦ grind (arith, nat_tests)
          | inr more ↦ elim (cases_lt q first) [
            | inl early ↦ let same = whole (before q place more early e) in grind (arith, nat_tests)
            | inr late ↦ elim (cases_lt q (first + count)) [
              | inl inside ↦ grind (arith, nat_tests)
              | inr past ↦ elim (cases_lt q (low + n)) [
                | inl over ↦ let same = whole (after q place past over e) in grind (arith, nat_tests)
                | inr far ↦ grind (arith, nat_tests)
              ]
            ]
          ]
        ]

-- the pages of the mapping that a page is inside, where that has the rights
pub around-same : (ms : List Mapping) (page : ℕ) (rights : Rights) (m : Mapping)
    → IsKept ms → IsAround ms page m → same_rights m.place.rights rights ≡ true
    → HaveRightsAround ms page rights m.first m.end
around-same ms page rights m kept is same =
    let cut : false ≡ is_cut (places_of ms) page rights =
    sym (is_cut-inside ms kept page m rights is ∙ ap not same) in
    let below = is.below in
    let above = is.above in
    record {
      begins = omega arith;
      ends = omega arith;
      below_end = omega (
        arith,
        ap (λ (n : Mapping). n.end) (is.found m),
        (mapping_at 0 ms kept.ordered is.at m is.within).below_end,
      );
      have = rights_inside ms kept page m rights is (same_rights-is _ _ same);
      cut_first = goes_on_at_end ms kept page m is m.first (omega arith) (omega arith) (λ a b. omega arith) ∙ cut;
      cut_end = goes_on_at_end ms kept page m is m.end (omega arith) (omega arith) (λ a b. omega arith) ∙ cut;
    }

-- and no pages, where it has other rights
pub around-other : (ms : List Mapping) (page : ℕ) (rights : Rights) (m : Mapping) → page < 2 ^ 64
    → IsKept ms → IsAround ms page m → same_rights m.place.rights rights ≡ false
    → HaveRightsAround ms page rights page page
around-other ms page rights m fits kept is other =
    let cut : goes_on (places_of ms) page ≡ is_cut (places_of ms) page rights =
    goes_on_inside ms page m kept.ordered is page is.below is.above
    ∙ sym (is_cut-inside ms kept page m rights is ∙ ap not other) in
    record {
      begins = omega arith;
      ends = omega arith;
      below_end = fits;
      have = λ q place low high got. absurd (omega arith);
      cut_first = cut;
      cut_end = cut;
    }

-- both ends together
pub IsWidened-ends : (ms : List Mapping) (range : PageRange) (rights : Rights) (low before after high : ℕ)
    → HaveRightsAround ms range.first rights low before
    → HaveRightsAround ms (range.first + range.count) rights after high
    → IsWidened ms range rights (record { first = low; count = high - low })
IsWidened-ends ms range rights low before after high begin end =
    let a = begin.begins in
    let b = end.ends in
    let last : low + (high - low) ≡ high = omega arith in
    record {
      begins = a;
      ends = omega arith;
      below_end = omega (arith, end.below_end);
      first = begin.cut_first;
      end = ap (goes_on (places_of ms)) last ∙ end.cut_end;
      same = same_widened ms rights range.first range.count low (high - low) a (omega arith)
          (λ q place from upto. begin.have q place from (omega (arith, begin.ends)))
          (λ q place from upto. end.have q place (omega (arith, end.begins)) (omega (arith, last)));
    }
