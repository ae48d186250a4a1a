-- What a table made of nodes says of one page, and which of its pages are dirty.
use Rattle.std.proofs.Common.{◌≡◌, ◌≢◌, ℕ, zero, suc, ◌+◌, ◌/◌, ◌^◌, ◌<◌, ◌≤◌, Bool, true, false, cond, ◌&&◌, eqb}
use Rattle.std.proofs.Common.{T, List, [], ◌∷◌, map, Option, Some, None, refl, sym, ap, ◌∙◌, subst, inl, inr, arith}
use Rattle.std.specs.List.{filter, list_any}
use Rattle.std.specs.Ordering.{nat_cmp}
use Rattle.std.specs.Cmp.{unsigned_tied}
use Rattle.std.specs.FinMap as maps
use Rattle.std.specs.FinMap.{find, is_sorted}
use Rattle.std.specs.FinMap.Entries.{below_all}
use Rattle.std.specs.FinSet as sets
use Rattle.std.proofs.lemmas.Bool.{cases_lt, cases_eq}
use Rattle.std.proofs.lemmas.Bool.Decides.{nat_tests}
use Rattle.page_entry.specs.Entry.{Mapped, entry_of, is_dirty}
use Rattle.page_table.specs.Table.{is_grown, in_range, dirty_among}
use Rattle.page_table.specs.inside.Nodes.{read_by_walk, lookup, has_leaf, with_page_entry}
use Rattle.page_table.specs.inside.Nodes.{present_from, pages_from, table_of}
use Rattle.page_table.proofs.Trees.{walk-none, walk-zero}
use Rattle.page_table.proofs.PageEdits.{walk-high}

present-suc : (f : ℕ → Option Mapped) (first n : ℕ)
    → present_from f first (suc n) ≡ with_page_entry first (f first) (present_from f (first + 1) n)
unfolding present_from
present-suc f first n = refl

present-zero : (f : ℕ → Option Mapped) (first : ℕ) → present_from f first 0 ≡ []
unfolding present_from
present-zero f first = refl

below_with : (x page : ℕ) (e : Option Mapped) (rest : List (ℕ × Mapped)) → x < page → below_all nat_cmp x rest ≡ true
    → below_all nat_cmp x (with_page_entry page e rest) ≡ true
below_with x page None rest less below = below
below_with x page (Some m) rest less below = grind (arith, nat_tests)

below_from : (x : ℕ) (f : ℕ → Option Mapped) (first n : ℕ) → x < first
    → below_all nat_cmp x (present_from f first n) ≡ true
below_from x f first zero less = ap (below_all nat_cmp x) (present-zero f first)
below_from x f first (suc n) less =
    ap (below_all nat_cmp x) (present-suc f first n)
    ∙ below_with x first (f first) (present_from f (first + 1) n) less (below_from x f (first + 1) n (omega arith))

sorted_with : (page : ℕ) (e : Option Mapped) (rest : List (ℕ × Mapped))
    → below_all nat_cmp page rest ≡ true → is_sorted nat_cmp rest ≡ true
    → is_sorted nat_cmp (with_page_entry page e rest) ≡ true
sorted_with page None rest below sorted = sorted
sorted_with page (Some m) rest below sorted = grind (arith, nat_tests)

sorted_from : (f : ℕ → Option Mapped) (first n : ℕ) → is_sorted nat_cmp (present_from f first n) ≡ true
sorted_from f first zero = ap (is_sorted nat_cmp) (present-zero f first)
sorted_from f first (suc n) =
    ap (is_sorted nat_cmp) (present-suc f first n)
    ∙ sorted_with first (f first) (present_from f (first + 1) n) (below_from first f (first + 1) n (omega arith))
    (sorted_from f (first + 1) n)

find_with : (q page : ℕ) (e : Option Mapped) (rest : List (ℕ × Mapped)) → (q ≡ page → find nat_cmp q rest ≡ None)
    → find nat_cmp q (with_page_entry page e rest) ≡ cond (eqb q page) e (find nat_cmp q rest)
find_with q page None rest none = elim (cases_eq q page) [
  | inl same ↦ (let gone = none same in grind (arith, nat_tests))
  | inr other ↦ grind (arith, nat_tests)
]
find_with q page (Some m) rest none = ap (λ b. cond b (Some m) (find nat_cmp q rest)) (unsigned_tied q page)

find_from : (f : ℕ → Option Mapped) (first n q : ℕ)
    → find nat_cmp q (present_from f first n) ≡ cond (in_range first (first + n) q) (f q) None
find_from f first zero q =
    ap (find nat_cmp q) (present-zero f first)
    ∙ (let out : in_range first (first + 0) q ≡ false = grind (arith, nat_tests) in rw out refl)
find_from f first (suc n) q =
    let later = find_from f (first + 1) n q in
    let gone : q ≡ first → find nat_cmp q (present_from f (first + 1) n) ≡ None =
    λ same. later ∙ (let out : in_range (first + 1) (first + 1 + n) q ≡ false = grind (arith, nat_tests) in
    rw out refl) in
    ap (find nat_cmp q) (present-suc f first n)
    ∙ find_with q first (f first) (present_from f (first + 1) n) gone
    ∙ ap (cond (eqb q first) (f first)) later
    ∙ elim (cases_eq q first) [
      | inl same ↦
          let here : eqb q first ≡ true = grind (arith, nat_tests) in
          let inside : in_range first (first + suc n) q ≡ true = grind (arith, nat_tests) in
          rw (here, inside) (ap f (sym same))
      | inr other ↦
          let missed : eqb q first ≡ false = grind (arith, nat_tests) in
          let alike : in_range (first + 1) (first + 1 + n) q ≡ in_range first (first + suc n) q =
          grind (arith, nat_tests) in
          rw (missed, alike) refl
    ]

any_from : (g : ℕ → Bool) (first n q : ℕ)
    → list_any (λ y. eqb y q) (pages_from g first n) ≡ (in_range first (first + n) q && g q)
unfolding pages_from
any_from g first zero q = (let out : in_range first (first + 0) q ≡ false = grind (arith, nat_tests) in rw out refl)
any_from g first (suc n) q =
    let later = any_from g (first + 1) n q in
    by_first (g first) refl later
  where
    by_first : (b : Bool) → g first ≡ b
        → list_any (λ y. eqb y q) (pages_from g (first + 1) n) ≡ (in_range (first + 1) (first + 1 + n) q && g q)
        → list_any (λ y. eqb y q) (cond b (first ∷ pages_from g (first + 1) n) (pages_from g (first + 1) n))
        ≡ (in_range first (first + suc n) q && g q)
    by_first true holds later = elim (cases_eq q first) [
      | inl same ↦
          let held : g q ≡ true = ap g same ∙ holds in
          grind (arith, nat_tests)
      | inr other ↦ grind (arith, nat_tests)
    ]
    by_first false holds later = later ∙ elim (cases_eq q first) [
      | inl same ↦
          let held : g q ≡ false = ap g same ∙ holds in
          grind (arith, nat_tests)
      | inr other ↦ grind (arith, nat_tests)
    ]

leaf-high : (ws : List ℕ) (q : ℕ) → 2 ^ 36 ≤ q → read_by_walk ws 3 (q / 512) ≡ 0
leaf-high ws q high =
    let none : read_by_walk ws 0 (q / 512 / 512 / 512 / 512) ≡ 0 =
    walk-zero ws _
    ∙ (let other : q / 512 / 512 / 512 / 512 ≢ 0 = omega arith in grind (arith, nat_tests)) in
    walk-none ws 2 (q / 512) (walk-none ws 1 (q / 512 / 512) (walk-none ws 0 (q / 512 / 512 / 512) none))

-- every page that has an entry or a leaf is listed
listed : (b : Bool) (n : ℕ) → (b ≡ false → n ≡ 0) → cond b (entry_of n) None ≡ entry_of n
listed true n none = refl
listed false n none = (let empty = none refl in rw empty refl)

-- a table's entry is what a walk reads
pub get_entry : (ws : List ℕ) (q : ℕ) → maps.get (table_of ws).entries q ≡ lookup ws q
unfolding table_of
get_entry ws q =
    maps.get-from_sorted nat_cmp (present_from (lookup ws) 0 (2 ^ 36)) q
    (subst T (sym (sorted_from (lookup ws) 0 (2 ^ 36))) tt)
    ∙ find_from (lookup ws) 0 (2 ^ 36) q
    ∙ listed (in_range 0 (0 + 2 ^ 36) q) (read_by_walk ws 4 q) (λ out. walk-high ws q (grind (arith, nat_tests)))

-- a page has grown where it has a leaf
pub is_grown-table_of : (ws : List ℕ) (q : ℕ) → is_grown (table_of ws) q ≡ has_leaf ws q
unfolding table_of
is_grown-table_of ws q =
    sets.contains-from_list_nat (pages_from (has_leaf ws) 0 (2 ^ 36)) q ∙ any_from (has_leaf ws) 0 (2 ^ 36) q ∙ within
  where
    within : (in_range 0 (0 + 2 ^ 36) q && has_leaf ws q) ≡ has_leaf ws q
    within = elim (cases_lt q (2 ^ 36)) [
      | inl low ↦ (let inside : in_range 0 (0 + 2 ^ 36) q ≡ true = grind (arith, nat_tests) in rw inside refl)
      | inr high ↦
          let none : read_by_walk ws 3 (q / 512) ≡ 0 = leaf-high ws q high in
          let out : in_range 0 (0 + 2 ^ 36) q ≡ false = grind (arith, nat_tests) in
          let no_leaf : has_leaf ws q ≡ false = grind (arith, nat_tests) in
          rw (out, no_leaf) refl
    ]

-- the entries of a table are the present ones, in their order
pub entries-table_of : (ws : List ℕ) → maps.entries (table_of ws).entries ≡ present_from (lookup ws) 0 (2 ^ 36)
unfolding table_of
entries-table_of ws = maps.entries-from_sorted nat_cmp (present_from (lookup ws) 0 (2 ^ 36))
    (subst T (sym (sorted_from (lookup ws) 0 (2 ^ 36))) tt)

module _ (f : ℕ → Option Mapped) where
  -- the dirty pages of a range among those from `first` on
  abbrev dirty_from : ℕ → ℕ → ℕ → ℕ → List ℕ
  dirty_from start end first n = dirty_among (present_from f first n) start end

  -- whether a page is a dirty one of the range
  abbrev pub is_listed : ℕ → ℕ → ℕ → Bool
  is_listed start end page = in_range start end page && is_dirty (f page)

  dirty_with : (start end page : ℕ) (e : Option Mapped) (rest : List (ℕ × Mapped))
      → dirty_among (with_page_entry page e rest) start end
      ≡ cond (in_range start end page && is_dirty e) (page ∷ dirty_among rest start end) (dirty_among rest start end)
  dirty_with start end page None rest = elim (in_range start end page) as (λ b.
      dirty_among rest start end ≡ cond (b && false) (page ∷ dirty_among rest start end) (dirty_among rest start end)) [
        | true ↦ refl
        | false ↦ refl
      ]
  dirty_with start end page (Some m) rest =
      let test = λ (e : ℕ × Mapped). in_range start end e.0 && e.1.dirty in
      elim (in_range start end page && m.dirty)
      as (λ b. map (λ e. e.0) (cond b ((page, m) ∷ filter test rest) (filter test rest))
      ≡ cond b (page ∷ dirty_among rest start end) (dirty_among rest start end)) [ true ↦ refl | false ↦ refl ]

  dirty-suc : (start end first n : ℕ)
      → dirty_from start end first (suc n) ≡ cond (is_listed start end first)
      (first ∷ dirty_from start end (first + 1) n) (dirty_from start end (first + 1) n)
  dirty-suc start end first n =
      ap (λ es. dirty_among es start end) (present-suc f first n)
      ∙ dirty_with start end first (f first) (present_from f (first + 1) n)

  pub dirty-none : (start end first n : ℕ) → ((q : ℕ) → first ≤ q → q < first + n → is_listed start end q ≡ false)
      → dirty_from start end first n ≡ []
  dirty-none start end first zero none = ap (λ es. dirty_among es start end) (present-zero f first)
  dirty-none start end first (suc n) none =
      let here = none first (omega arith) (omega arith) in
      dirty-suc start end first n
      ∙ rw here (dirty-none start end (first + 1) n (λ q low high. none q (omega arith) (omega arith)))

  -- where the range begins doesn't matter for later pages
  dirty-later : (s t end first n : ℕ) → s ≤ first → t ≤ first → dirty_from s end first n ≡ dirty_from t end first n
  dirty-later s t end first zero a b =
      ap (λ es. dirty_among es s end) (present-zero f first)
      ∙ sym (ap (λ es. dirty_among es t end) (present-zero f first))
  dirty-later s t end first (suc n) a b =
      let later = dirty-later s t end (first + 1) n (omega arith) (omega arith) in
      let here : in_range s end first ≡ in_range t end first = grind (arith, nat_tests) in
      dirty-suc s end first n ∙ rw (here, later) refl ∙ sym (dirty-suc t end first n)

  -- the first of the dirty pages, and those after it
  pub dirty-first : (start end first n page : ℕ) → first ≤ page → start ≤ page → page < first + n
      → is_listed start end page ≡ true → ((q : ℕ) → first ≤ q → q < page → is_listed start end q ≡ false)
      → dirty_from start end first n ≡ page ∷ dirty_from (page + 1) end first n
  dirty-first start end first zero page low from high here before = absurd (omega arith)
  dirty-first start end first (suc n) page low from high here before = elim (cases_eq first page) [
    | inl same ↦
        let listed_here : is_listed start end first ≡ true = ap (is_listed start end) same ∙ here in
        let begun : dirty_from start end first (suc n) ≡ first ∷ dirty_from start end (first + 1) n =
        dirty-suc start end first n
        ∙ rw listed_here refl in
        let later : dirty_from start end (first + 1) n ≡ dirty_from (page + 1) end (first + 1) n =
        dirty-later start (page + 1) end (first + 1) n (omega arith) (omega arith) in
        begun ∙ ap (λ ps. first ∷ ps) (later ∙ sym after) ∙ ap (λ k. k ∷ dirty_from (page + 1) end first (suc n)) same
    | inr other ↦
        let passed_over : is_listed start end first ≡ false = before first (omega arith) (omega arith) in
        let begun : dirty_from start end first (suc n) ≡ dirty_from start end (first + 1) n =
        dirty-suc start end first n
        ∙ rw passed_over refl in
        begun
        ∙ dirty-first start end (first + 1) n page (omega arith) from
        (omega arith) here (λ q least most. before q (omega arith) most)
        ∙ ap (λ ps. page ∷ ps) (sym after)
  ]
    where
      after : dirty_from (page + 1) end first (suc n) ≡ dirty_from (page + 1) end (first + 1) n
      after = (let passed : is_listed (page + 1) end first ≡ false =
          (let out : in_range (page + 1) end first ≡ false = grind (arith, nat_tests) in rw out refl) in
          dirty-suc (page + 1) end first n ∙ rw passed refl)
