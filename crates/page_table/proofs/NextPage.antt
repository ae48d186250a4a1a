-- The next page of a range that has a present entry, by a search of its leaf's marks.
use Rattle.std.proofs.Common.{◌≡◌, ℕ, ◌+◌, ◌-◌, ◌*◌, ◌/◌, ◌%◌, ◌<◌, ◌≤◌, Bool, true, false, cond, ltb}
use Rattle.std.proofs.Common.{ltb-true, List, Option, Some, None, refl, sym, ap, ◌∙◌, subst, inl, inr, arith}
use Rattle.std.proofs.lemmas.Bool.{cases_lt}
use Rattle.page_table.specs.inside.Nodes.{read_by_walk, IsFound}
use Rattle.page_table.specs.Bits.{is_set, IsSet}
use Rattle.page_table.specs.inside.Marks.{place_of, MarksEntries, IsNextPresent}
use Rattle.page_table.proofs.Trees.{walk-none}
use Rattle.page_table.proofs.Choices.{not_less}
use Rattle.page_table.proofs.Marked.{unmarked}

module _ (ws present : List ℕ) (marks : MarksEntries ws present) (start page end first k : ℕ) (low : start ≤ page)
    (before : (q : ℕ) → start ≤ q → q < page → q < end → read_by_walk ws 4 q ≡ 0) (found : IsFound ws page end first)
    (k_is : k ≡ read_by_walk ws 3 (first / 512)) where
  -- no page has an entry whose mark is before this place
  pub none_before : (upto : ℕ) → ((i : ℕ) → (k - 1) * 512 + first % 512 ≤ i → i < upto → is_set present i ≡ false)
      → (q : ℕ) → start ≤ q → q < end → q < (first / 512 + 1) * 512 → (first ≤ q → (k - 1) * 512 + q % 512 < upto)
      → read_by_walk ws 4 q ≡ 0
  none_before upto unset q from less block place = elim (cases_lt q page) [
    | inl earlier ↦ before q from earlier less
    | inr later ↦ elim (cases_lt q first) [
      | inl gap ↦ walk-none ws 3 q (found.before q later gap)
      | inr at ↦
          let same : read_by_walk ws 3 (q / 512) ≡ k =
          ap (read_by_walk ws 3) {x = q / 512} {y = first / 512} (omega arith)
          ∙ sym k_is in
          let leaf : 0 < read_by_walk ws 3 (q / 512) = (let some = found.leaf in omega arith) in
          let there : place_of ws q ≡ (k - 1) * 512 + q % 512 = ap (λ n. (n - 1) * 512 + q % 512) same in
          unmarked ws present marks q leaf
          (ap (is_set present) there ∙ unset ((k - 1) * 512 + q % 512) (omega arith) (place at))
    ]
  ]

  pub next_found : (place : ℕ) (r : Option ℕ) → IsSet present ((k - 1) * 512 + first % 512) ((k - 1 + 1) * 512) place
      → r ≡ cond (ltb (first / 512 * 512 + place % 512) end) (Some (first / 512 * 512 + place % 512)) None
      → IsNextPresent ws start end r
  next_found place r is r_is =
      subst (IsNextPresent ws start end) (sym r_is) (by_test (ltb (first / 512 * 512 + place % 512) end) refl)
    where
      least : (k - 1) * 512 + first % 512 ≤ place
      least = is.low

      most : place < (k - 1 + 1) * 512
      most = is.high

      earlier : (q : ℕ) → start ≤ q → q < first / 512 * 512 + place % 512 → q < end → read_by_walk ws 4 q ≡ 0
      earlier q from upto less =
          none_before place is.before q from less (omega arith) (λ at. omega (arith, least, most))

      by_test : (b : Bool) → ltb (first / 512 * 512 + place % 512) end ≡ b
          → IsNextPresent ws start end (cond b (Some (first / 512 * 512 + place % 512)) None)
      by_test true test =
          let below = ltb-true (first / 512 * 512 + place % 512) end test in
          let from = found.low in
          record {
            low = omega (arith, least, most);
            high = below;
            leaf = subst (λ n. 0 < read_by_walk ws 3 n) {x = first / 512} {y = (first / 512 * 512 + place % 512) / 512}
                (omega arith) found.leaf;
            before = λ q at upto. earlier q at upto (omega arith);
          }
      by_test false test = λ q from less.
          earlier q from (let past = not_less (first / 512 * 512 + place % 512) end test in omega arith) less

-- and no leaf is left
pub none_left : (ws : List ℕ) (start page end : ℕ)
    → ((q : ℕ) → start ≤ q → q < page → q < end → read_by_walk ws 4 q ≡ 0)
    → ((q : ℕ) → page ≤ q → q < end → read_by_walk ws 3 (q / 512) ≡ 0) → (q : ℕ) → start ≤ q → q < end
    → read_by_walk ws 4 q ≡ 0
none_left ws start page end before none q from less = elim (cases_lt q page) [
  | inl earlier ↦ before q from earlier less
  | inr later ↦ walk-none ws 3 q (none q later less)
]
