-- What the questions about ranges and file pages say of one page, for the crates above.
use Rattle.std.proofs.Common.{◌≡◌, ℕ, ◌<◌, Bool, true, false, cond, eqb, ◌&&◌}
use Rattle.std.proofs.Common.{List, [], ◌∷◌, map, filter, refl, arith}
use Rattle.std.specs.List.{list_any}
use Rattle.std.specs.Ordering.{nat_cmp}
use Rattle.std.specs.FinMap.Entries.{below_all}
use Rattle.std.proofs.lemmas.Bool.Decides.{nat_tests}
use Rattle.mappings.specs.declared.place.Place.{Place}

module _ (file page : ℕ) where
  -- whether a place is at this page of this file
  abbrev pub is_at : Place → Bool
  is_at place = eqb place.file file && eqb place.page page

  -- a key below every entry is none of them
  none_below : (q : ℕ) (es : List (ℕ × Place)) → below_all nat_cmp q es ≡ true
      → list_any (eqb q) (map (λ e. e.0) (filter (λ e. is_at e.1) es)) ≡ false
  none_below q [] h = refl
  none_below q (e ∷ es) h =
      let less : q < e.0 = grind (arith, nat_tests) in
      let rest = none_below q es (grind (arith, nat_tests)) in
      let other : eqb q e.0 ≡ false = grind (arith, nat_tests) in
      elim (is_at e.1)
      as (λ b. list_any (eqb q) (map (λ e. e.0) (cond b (e ∷ filter (λ e. is_at e.1) es) (filter (λ e. is_at e.1) es)))
      ≡ false) [ true ↦ rw (other, rest) refl | false ↦ rest ]
