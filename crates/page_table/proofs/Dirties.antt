-- Which pages a mask and a walk over the leaves find dirty.
use Rattle.std.proofs.Common.{◌≡◌, ℕ, zero, suc, ◌+◌, ◌-◌, ◌*◌, ◌/◌, ◌%◌, ◌^◌, ◌<◌, ◌≤◌, Bool}
use Rattle.std.proofs.Common.{true, false, cond, ◌&&◌, eqb, List, [], ◌∷◌, get_or, take, drop}
use Rattle.std.proofs.Common.{min, Option, Some, None, refl, sym, ap, ◌∙◌, inl, inr, arith}
use Rattle.std.specs.Int.{bit_at}
use Rattle.std.proofs.lemmas.Bool.{cases_lt}
use Rattle.std.proofs.lemmas.Bool.Decides.{nat_tests}
use Rattle.std.proofs.lemmas.List.{get_or-take, get_or-drop}
use Rattle.std.proofs.lemmas.Nat.{pow-add}
use Rattle.std.proofs.lemmas.Nat.Bits.{bit_at_above, bit_at-zero}
use Rattle.std.proofs.Math.Nat.{div-div-eq-div-mul}
use Rattle.page_entry.specs.Entry.{Mapped, entry_of, bits_of, has_bit, IsEntry, is_dirty}
use Rattle.page_table.specs.Table.{in_range, dirty_among}
use Rattle.page_table.specs.inside.Nodes.{word, read_by_walk, lookup, present_from}
use Rattle.page_table.specs.inside.Nodes.{IsTable, IsLeafMask, IsOfLeaf, IsDirtyPage}
use Rattle.page_table.specs.Bits.{is_set, IsSet}
use Rattle.page_table.proofs.Trees.{walk-none, walk-suc, word_of_node}
use Rattle.page_table.proofs.View.{dirty-none, dirty-first}
use Rattle.page_table.proofs.PageEdits.{walk-high}

-- a bit of a shifted number
bit_at-shifted : (n k j : ℕ) → bit_at (n / 2 ^ k) j ≡ bit_at n (k + j)
bit_at-shifted n k j = ap (λ m. m % 2) (div-div-eq-div-mul n (2 ^ k) (2 ^ j) ∙ ap (λ m. n / m) (sym (pow-add 2 k j)))

no_bit : (b : ℕ) → b ≡ 0 → eqb b 1 ≡ false
no_bit b none = rw none refl

-- no bit of the rest of a word is set
pub rest_blank : (mask : List ℕ) (place i : ℕ)
    → get_or mask (place / 64) 0 / 2 ^ (place % 64) ≡ 0 → place ≤ i → i < (place / 64 + 1) * 64
    → is_set mask i ≡ false
rest_blank mask place i blank low high =
    let m = get_or mask (place / 64) 0 in
    ap (λ n. has_bit (get_or mask n 0) (i % 64)) {x = i / 64} {y = place / 64} (omega arith)
    ∙ ap (has_bit m) {x = i % 64} {y = place % 64 + (i - place)} (omega arith)
    ∙ no_bit (bit_at m (place % 64 + (i - place)))
    (sym (bit_at-shifted m (place % 64) (i - place)) ∙ ap (λ n. bit_at n (i - place)) blank ∙ bit_at-zero (i - place))

-- the lowest bit of the rest of a word
pub rest_lowest : (mask : List ℕ) (place end m word t : ℕ) → place < end → end % 64 ≡ 0 → get_or mask (place / 64) 0 ≡ m
    → word ≡ m / 2 ^ (place % 64) → m < 2 ^ 64 → (t < 64) × (bit_at word t ≡ 1) × ((i : ℕ) → i < t → bit_at word i ≡ 0)
    → IsSet mask place end (place + t)
rest_lowest mask place end m word t less whole m_is word_is fits lowest =
    let shifted = λ (j : ℕ). sym (bit_at-shifted m (place % 64) j) ∙ ap (λ n. bit_at n j) (sym word_is) in
    let one : bit_at m (place % 64 + t) ≡ 1 = shifted t ∙ lowest.1 in
    let within : place % 64 + t < 64 = elim (cases_lt (place % 64 + t) 64) [
      | inl low ↦ low
      | inr high ↦ absurd (let none = bit_at_above m 64 (place % 64 + t) fits high in omega arith)
    ] in
    record {
      low = omega arith;
      high = omega arith;
      here =
          ap (λ n. has_bit (get_or mask n 0) ((place + t) % 64)) {x = (place + t) / 64} {y = place / 64} (omega arith)
          ∙ ap (λ n. has_bit n ((place + t) % 64)) m_is
          ∙ ap (has_bit m) {x = (place + t) % 64} {y = place % 64 + t} (omega arith)
          ∙ ap (λ b. eqb b 1) one;
      before = λ i low high. ap (λ n. has_bit (get_or mask n 0) (i % 64)) {x = i / 64} {y = place / 64} (omega arith)
          ∙ ap (λ n. has_bit n (i % 64)) m_is ∙ ap (has_bit m) {x = i % 64} {y = place % 64 + (i - place)} (omega arith)
          ∙ no_bit (bit_at m (place % 64 + (i - place))) (shifted (i - place) ∙ lowest.2 (i - place) (omega arith));
    }

-- the first place from an earlier one on, where none between is set
pub IsSet-from : (mask : List ℕ) (from place end found : ℕ) → from ≤ place
    → ((i : ℕ) → from ≤ i → i < place → i < end → is_set mask i ≡ false) → IsSet mask place end found
    → IsSet mask from end found
IsSet-from mask from place end found le before is = record {
  low = omega (arith, is.low);
  high = is.high;
  here = is.here;
  before = λ i low high. elim (cases_lt i place) [
    | inl earlier ↦ (let most = is.high in before i low earlier (omega arith))
    | inr later ↦ is.before i later high
  ];
}

-- the first page of a leaf by its mask
pub IsOfLeaf-found : (mask : List ℕ) (start end place : ℕ)
    → IsSet mask (start % 512) 512 place → start / 512 * 512 + place < end
    → IsOfLeaf mask start end (start / 512 * 512 + place)
IsOfLeaf-found mask start end place is less =
    let high = is.high in
    let low = is.low in
    record {
      low = omega arith;
      high = less;
      block = omega arith;
      here = ap (is_set mask) {x = (start / 512 * 512 + place) % 512} {y = place} (omega arith) ∙ is.here;
      before = λ q from upto. is.before (q % 512) (omega arith) (omega arith);
    }

-- a mask's bit is whether the page's entry is dirty
pub mask_tells : (ws : List ℕ) (block : ℕ) (mask : List ℕ) → IsLeafMask ws block mask → (q : ℕ) → q / 512 ≡ block
    → has_bit (read_by_walk ws 4 q) 6 ≡ is_set mask (q % 512)
mask_tells ws block mask is q same = sym (is.bits (q % 512) (omega arith)
    ∙ ap (λ n. has_bit (read_by_walk ws 4 n) 6) {x = block * 512 + q % 512} {y = q} (omega arith))

pub zero_bit : has_bit 0 6 ≡ false
zero_bit = refl

pub no_dirty_leaf : (ws : List ℕ) (q : ℕ) → read_by_walk ws 3 (q / 512) ≡ 0 → has_bit (read_by_walk ws 4 q) 6 ≡ false
no_dirty_leaf ws q none = ap (λ n. has_bit n 6) (walk-none ws 3 q none) ∙ zero_bit

-- the mask of a block that has no leaf
pub blank_mask : (ws : List ℕ) (block : ℕ) → read_by_walk ws 3 block ≡ 0
    → IsLeafMask ws block (0 ∷ 0 ∷ 0 ∷ 0 ∷ 0 ∷ 0 ∷ 0 ∷ 0 ∷ [])
blank_mask ws block none = record {
  bits = λ i less. no_bits (i / 64) (i % 64) ∙ sym (no_dirty_leaf ws (block * 512 + i)
      (ap (read_by_walk ws 3) {x = (block * 512 + i) / 512} {y = block} (omega arith) ∙ none));
}
  where
    blank_at : (k : ℕ) → ◌≡◌ {A = ℕ} (get_or (0 ∷ 0 ∷ 0 ∷ 0 ∷ 0 ∷ 0 ∷ 0 ∷ 0 ∷ []) k 0) 0
    blank_at zero = refl
    blank_at (suc zero) = refl
    blank_at (suc (suc zero)) = refl
    blank_at (suc (suc (suc zero))) = refl
    blank_at (suc (suc (suc (suc zero)))) = refl
    blank_at (suc (suc (suc (suc (suc zero))))) = refl
    blank_at (suc (suc (suc (suc (suc (suc zero)))))) = refl
    blank_at (suc (suc (suc (suc (suc (suc (suc zero))))))) = refl
    blank_at (suc (suc (suc (suc (suc (suc (suc (suc k)))))))) = refl

    no_bits : (k j : ℕ) → has_bit (get_or (0 ∷ 0 ∷ 0 ∷ 0 ∷ 0 ∷ 0 ∷ 0 ∷ 0 ∷ []) k 0) j ≡ false
    no_bits k j = ap (λ n. has_bit n j) (blank_at k) ∙ no_bit (bit_at 0 j) (bit_at-zero j)

-- an entry's bits are those of a dirty entry where bit 6 is set
dirty_of : (n : ℕ) (b : Bool) → has_bit n 0 ≡ b → IsEntry n
    → is_dirty (cond b
    (Some (record { frame = n / 4096; writable = has_bit n 1; accessed = has_bit n 5; dirty = has_bit n 6 })) None)
    ≡ has_bit n 6
dirty_of n true here is = refl
dirty_of n false here is = sym (ap (λ k. has_bit k 6) blank ∙ zero_bit)
  where
    not_there : (b : Bool) → b ≡ false
        → cond {A = Option Mapped} b
        (Some (record { frame = n / 4096; writable = has_bit n 1; accessed = has_bit n 5; dirty = has_bit n 6 })) None
        ≡ None
    not_there true here = absurd (cc)
    not_there false here = refl

    blank : n ≡ 0
    blank = sym is.named ∙ ap bits_of (not_there (has_bit n 0) here)

pub dirty_bit : (n : ℕ) → IsEntry n → is_dirty (entry_of n) ≡ has_bit n 6
dirty_bit n is = dirty_of n (has_bit n 0) refl is

-- the first leaf, and those after it
pub IsFirstDirty-here : (ws mask : List ℕ) (start next first end page : ℕ)
    → IsLeafMask ws (first / 512) mask → start ≤ first
    → ((q : ℕ) → start ≤ q → q < first → has_bit (read_by_walk ws 4 q) 6 ≡ false) → IsOfLeaf mask first end page
    → IsDirtyPage ws start end page
IsFirstDirty-here ws mask start next first end page is le none found = record {
  low = omega (arith, found.low);
  high = found.high;
  here = mask_tells ws (first / 512) mask is page found.block ∙ found.here;
  before = λ q low high. elim (cases_lt q first) [
    | inl earlier ↦ none q low earlier
    | inr later ↦ (let block = found.block in
        mask_tells ws (first / 512) mask is q (omega arith) ∙ found.before q later high)
  ];
}

pub none_in_leaf : (ws mask : List ℕ) (start first end : ℕ) → IsLeafMask ws (first / 512) mask
    → ((q : ℕ) → start ≤ q → q < first → q < end → has_bit (read_by_walk ws 4 q) 6 ≡ false)
    → ((q : ℕ) → first ≤ q → q < end → q / 512 ≡ first / 512 → is_set mask (q % 512) ≡ false)
    → (q : ℕ) → start ≤ q → q < (first / 512 + 1) * 512 → q < end
    → has_bit (read_by_walk ws 4 q) 6 ≡ false
none_in_leaf ws mask start first end is none missed q low high less = elim (cases_lt q first) [
  | inl earlier ↦ none q low earlier less
  | inr later ↦ (let block : q / 512 ≡ first / 512 = omega arith in
      mask_tells ws (first / 512) mask is q block ∙ missed q later less block)
]

-- up to the first page that has a leaf
pub none_in_gap : (ws : List ℕ) (start next end first : ℕ)
    → ((q : ℕ) → start ≤ q → q < next → q < end → has_bit (read_by_walk ws 4 q) 6 ≡ false)
    → ((q : ℕ) → next ≤ q → q < first → read_by_walk ws 3 (q / 512) ≡ 0) → (q : ℕ) → start ≤ q → q < first → q < end
    → has_bit (read_by_walk ws 4 q) 6 ≡ false
none_in_gap ws start next end first none gap q low high less = elim (cases_lt q next) [
  | inl earlier ↦ none q low earlier less
  | inr later ↦ no_dirty_leaf ws q (gap q later high)
]

-- no page past the four levels is dirty
pub none_past : (ws : List ℕ) (start end most : ℕ) → end ≡ min most (2 ^ 36)
    → ((q : ℕ) → start ≤ q → q < end → has_bit (read_by_walk ws 4 q) 6 ≡ false) → (q : ℕ) → start ≤ q → q < most
    → has_bit (read_by_walk ws 4 q) 6 ≡ false
none_past ws start end most whole none q low less = elim (cases_lt q end) [
  | inl within ↦ none q low within
  | inr past ↦ ap (λ n. has_bit n 6) (walk-high ws q (omega arith)) ∙ zero_bit
]

-- the first dirty page of a range is that of a longer one
pub wider : (ws : List ℕ) (start end most page : ℕ) → end ≤ most → IsDirtyPage ws start end page
    → IsDirtyPage ws start most page
wider ws start end most page le is =
    record { low = is.low; high = omega (arith, is.high); here = is.here; before = is.before }

module _ (ws : List ℕ) (table : IsTable ws) (start end : ℕ) where
  listed_is : (q : ℕ) → is_dirty (lookup ws q) ≡ has_bit (read_by_walk ws 4 q) 6
  listed_is q = dirty_bit (read_by_walk ws 4 q) (table.tree.entries q)

  not_listed : (q : ℕ) → (start ≤ q → q < end → has_bit (read_by_walk ws 4 q) 6 ≡ false)
      → (in_range start end q && is_dirty (lookup ws q)) ≡ false
  not_listed q clean = by_range (in_range start end q) refl
    where
      by_range : (b : Bool) → in_range start end q ≡ b → (b && is_dirty (lookup ws q)) ≡ false
      by_range false out = refl
      by_range true inside = listed_is q ∙ clean (grind (arith, nat_tests)) (grind (arith, nat_tests))

  -- the list of the dirty pages is empty
  pub list_none : ((q : ℕ) → start ≤ q → q < end → has_bit (read_by_walk ws 4 q) 6 ≡ false)
      → dirty_among (present_from (lookup ws) 0 (2 ^ 36)) start end ≡ []
  list_none none = dirty-none (lookup ws) start end 0 (2 ^ 36) (λ q low high. not_listed q (none q))

  -- or begins with the first of them
  pub list_first : (page : ℕ) → page < 2 ^ 36 → IsDirtyPage ws start end page
      → dirty_among (present_from (lookup ws) 0 (2 ^ 36)) start end
      ≡ page ∷ dirty_among (present_from (lookup ws) 0 (2 ^ 36)) (page + 1) end
  list_first page small is =
      let inside : in_range start end page ≡ true =
      (let low = is.low in let high = is.high in grind (arith, nat_tests)) in
      let dirty : is_dirty (lookup ws page) ≡ true = listed_is page ∙ is.here in
      dirty-first (lookup ws) start end 0 (2 ^ 36) page (omega arith) is.low (omega arith) (rw (inside, dirty) refl)
      (λ q low high. not_listed q (λ from upto. is.before q from high))

-- the mask of a leaf
pub leaf_mask_is : (ws : List ℕ) (block node n : ℕ) (entries mask : List ℕ)
    → node ≡ read_by_walk ws 3 block → 0 < node → n ≡ 512 → entries ≡ take n (drop ((node - 1) * 512) ws)
    → ((i : ℕ) → i < 512 → is_set mask i ≡ has_bit (get_or entries i 0) 6)
    → IsLeafMask ws block mask
leaf_mask_is ws block node n entries mask node_is some n_is cut bits = record {
  bits = λ i less.
      let at : read_by_walk ws 3 ((block * 512 + i) / 512) ≡ node =
      ap (read_by_walk ws 3) {x = (block * 512 + i) / 512} {y = block} (omega arith)
      ∙ sym node_is in
      bits i less
      ∙ ap (λ n. has_bit n 6) (ap (λ (l : List ℕ). get_or l i 0) cut
      ∙ get_or-take n (drop ((node - 1) * 512) ws) i 0 (omega arith) ∙ get_or-drop ((node - 1) * 512) ws i 0
      ∙ ap (λ m. get_or ws m 0) {x = (node - 1) * 512 + i}
      {y = (node - 1) * 512 + (block * 512 + i) % 512} (omega arith)
      ∙ sym (walk-suc ws 3 (block * 512 + i) ∙ ap (λ k. word ws k ((block * 512 + i) % 512)) at
      ∙ word_of_node ws node ((block * 512 + i) % 512) some));
}
