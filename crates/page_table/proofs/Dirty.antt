-- Which pages are among the dirty ones of a range, and in which order they come.
use Rattle.std.proofs.Common.{◌≡◌, ℕ, ◌<◌, Bool, true, false, cond, ◌&&◌, ◌||◌, T, eqb, ltb, ltb-true, ne_eqb, List}
use Rattle.std.proofs.Common.{[], ◌∷◌, map, Option, Some, None, Less, Equal, Greater, refl, sym, ap, ◌∙◌, arith}
use Rattle.std.specs.List.{filter, list_any}
use Rattle.std.specs.Ordering.{nat_cmp, is_lt}
use Rattle.std.specs.Cmp.{unsigned_tied}
use Rattle.std.specs.FinMap as maps
use Rattle.std.specs.FinMap.{find, is_sorted}
use Rattle.std.specs.FinMap.Entries.{below_all}
use Rattle.std.proofs.lemmas.Bool.Decides.{nat_tests}
use Rattle.page_entry.specs.Entry.{Mapped, is_dirty}
use Rattle.page_table.specs.Table.{in_range, dirty_among, dirty_in}

-- the page is below each of these
abbrev IsBelow : ℕ → List ℕ → Type 0
IsBelow page [] = Unit {0}
IsBelow page (next ∷ later) = (page < next) × IsBelow page later

-- each page is below all later ones
abbrev IsRising : List ℕ → Type 0
IsRising [] = Unit {0}
IsRising (page ∷ later) = IsBelow page later × IsRising later

abbrev keys_of : List (ℕ × Mapped) → List ℕ
keys_of es = map (λ e. e.0) es

less_and : (a b : ℕ) (rest : Bool) → T (is_lt (nat_cmp a b) && rest) → (a < b) × T rest
less_and a b rest h =
    elim (ltb a b)
    as (λ t. ltb a b ≡ t → T (is_lt (cond t Less (cond (eqb a b) Equal Greater)) && rest) → (a < b) × T rest) [
      | true ↦ λ e h. (ltb-true a b e, h)
      | false ↦ λ e. elim (eqb a b) as (λ t. T (is_lt (cond t Equal Greater) && rest) → (a < b) × T rest) [
        | true ↦ λ h. absurd h
        | false ↦ λ h. absurd h
      ]
    ] refl h

both_parts : (a b : Bool) → T (a && b) → T a × T b
both_parts true b h = (tt, h)
both_parts false b h = absurd h

below_keys : (q : ℕ) (es : List (ℕ × Mapped)) → T (below_all nat_cmp q es) → IsBelow q (keys_of es)
below_keys q [] h = tt
below_keys q (e ∷ es) h = let parts = less_and q e.0 (below_all nat_cmp q es) h in (parts.0, below_keys q es parts.1)

rising_keys : (es : List (ℕ × Mapped)) → T (is_sorted nat_cmp es) → IsRising (keys_of es)
rising_keys [] h = tt
rising_keys (e ∷ es) h =
    let parts = both_parts (below_all nat_cmp e.0 es) (is_sorted nat_cmp es) h in
    (below_keys e.0 es parts.0, rising_keys es parts.1)

none_below : (q : ℕ) (es : List (ℕ × Mapped)) → IsBelow q (keys_of es) → find nat_cmp q es ≡ None
none_below q [] below = refl
none_below q (e ∷ es) below =
    ap (λ b. cond b (Some e.1) (find nat_cmp q es))
    (unsigned_tied q e.0 ∙ ne_eqb q e.0 (λ same. omega (arith, below.0)))
    ∙ none_below q es below.1

any_kept : (t : Bool) (q : ℕ) (e : ℕ × Mapped) (es : List (ℕ × Mapped))
    → list_any (λ p. eqb p q) (map (λ x. x.0) (cond t (e ∷ es) es))
    ≡ ((t && eqb e.0 q) || list_any (λ p. eqb p q) (map (λ x. x.0) es))
any_kept true q e es = refl
any_kept false q e es = refl

-- at the first entry, or among the others
at_entry : (first end q page : ℕ) (dirty : Bool) (entry : Mapped) (others : Option Mapped)
    → entry.dirty ≡ dirty → (page ≡ q → others ≡ None)
    → (((in_range first end page && dirty) && eqb page q) || (in_range first end q && is_dirty others))
    ≡ (in_range first end q && is_dirty (cond (eqb q page) (Some entry) others))
at_entry first end q page dirty entry others is none = grind (arith, nat_tests)

among : (first end : ℕ) (es : List (ℕ × Mapped)) → IsRising (keys_of es) → (q : ℕ)
    → list_any (λ p. eqb p q) (dirty_among es first end) ≡ (in_range first end q && is_dirty (find nat_cmp q es))
among first end [] rising q = elim (in_range first end q) as (λ b. false ≡ (b && false)) [ true ↦ refl | false ↦ refl ]
among first end (e ∷ es) rising q =
    any_kept (in_range first end e.0 && e.1.dirty) q e (filter (λ x. in_range first end x.0 && x.1.dirty) es)
    ∙ ap (λ b. ((in_range first end e.0 && e.1.dirty) && eqb e.0 q) || b) (among first end es rising.1 q)
    ∙ at_entry first end q e.0 e.1.dirty e.1 (find nat_cmp q es) refl
    (λ same. ap (λ k. find nat_cmp k es) (sym same) ∙ none_below e.0 es rising.0)
    ∙ ap (λ b. in_range first end q && is_dirty (cond b (Some e.1) (find nat_cmp q es))) (sym (unsigned_tied q e.0))

-- a page is listed exactly if it is in the range and its entry is dirty
pub dirty_in-lists : (entries : maps.FinMap nat_cmp Mapped) (first end q : ℕ)
    → list_any (λ p. eqb p q) (dirty_in entries first end) ≡ (in_range first end q && is_dirty (maps.get entries q))
dirty_in-lists entries first end q =
    among first end (maps.entries entries) (rising_keys _ (maps.entries_sorted entries)) q
    ∙ ap (λ entry. in_range first end q && is_dirty entry) (sym (maps.get-entries entries q))
