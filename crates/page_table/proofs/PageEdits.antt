-- What edits of parts of leaves do page by page.
use Rattle.std.proofs.Common.{◌≡◌, ◌≢◌, ℕ, ◌+◌, ◌-◌, ◌*◌, ◌/◌, ◌%◌, ◌^◌, ◌<◌, ◌≤◌, Bool, true, false, cond, List}
use Rattle.std.proofs.Common.{length, get_or, set, min, Option, Some, None, refl, sym, ap, ◌∙◌, subst, inl, inr, arith}
use Rattle.std.proofs.lemmas.Bool.{cases_eq, cases_lt}
use Rattle.std.proofs.lemmas.Bool.Decides.{nat_tests}
use Rattle.std.proofs.lemmas.List.{length-set, get_or-set_same, get_or-set_other}
use Rattle.std.specs.Borrow.{Bor}
use Rattle.page_entry.specs.Entry.{IsEntry, Mapped, entry_of, bits_of}
use Rattle.page_entry.proofs.Bits.{IsSmall, IsSmall-entry_of, IsEntry-bits_of}
use Rattle.page_table.specs.Table.{in_range, is_marked}
use Rattle.page_table.specs.declared.change.Change.{Change}
use Rattle.page_table.specs.declared.change.Change.TheVariants.{Clear, MakeReadOnly, Protect}
use Rattle.page_table.specs.inside.Changes.{changed_by, changed_bits}
use Rattle.page_table.specs.inside.Nodes.{read_by_walk, IsTree, IsTable, EditsPages}
use Rattle.page_table.specs.inside.Marks.{IsNext, Keeps}
use Rattle.page_table.proofs.Trees.{walk-none, walk-zero, walk-edited, lookup-edited, IsTree-edited}

-- a change leaves an entry's bits
changed_small : (change : Change) (e : Option Mapped) → IsSmall e → IsSmall (changed_by change e)
changed_small Clear e small = tt
changed_small MakeReadOnly None small = tt
changed_small MakeReadOnly (Some m) small = small
changed_small (Protect marked) None small = tt
changed_small (Protect marked) (Some m) small = by_mark (is_marked marked.now m.frame)
  where
    by_mark : (b : Bool) → IsSmall (Some (cond b (record m { writable = false; dirty = false }) m))
    by_mark true = small
    by_mark false = small

pub IsEntry-changed : (change : Change) (n : ℕ) → IsEntry n → IsEntry (changed_bits change n)
IsEntry-changed change n is = IsEntry-bits_of _ (changed_small change _ (IsSmall-entry_of n is))

-- and no entry where there was none
pub changed-zero : (change : Change) → changed_bits change 0 ≡ 0
changed-zero Clear = refl
changed-zero MakeReadOnly = refl
changed-zero (Protect marked) = refl

-- a present entry that is protected is present still
some_bits : (e : Option Mapped) → 0 < bits_of e → (marked : Bor (List Bool))
    → 0 < bits_of (changed_by (Protect marked) e)
some_bits None some marked = absurd (omega arith)
some_bits (Some m) some marked = omega arith

pub Keeps-protected : (marked : Bor (List Bool)) → Keeps (changed_bits (Protect marked))
Keeps-protected marked = λ n is some. some_bits (entry_of n) (subst (λ (k : ℕ). 0 < k) (sym is.named) some) marked

-- no page past those of four levels has an entry
pub walk-high : (ws : List ℕ) (q : ℕ) → 2 ^ 36 ≤ q → read_by_walk ws 4 q ≡ 0
walk-high ws q high =
    let none : read_by_walk ws 0 (q / 512 / 512 / 512 / 512) ≡ 0 =
    walk-zero ws _
    ∙ (let other : q / 512 / 512 / 512 / 512 ≢ 0 = omega arith in grind (arith, nat_tests)) in
    walk-none ws 3 q
    (walk-none ws 2 (q / 512) (walk-none ws 1 (q / 512 / 512) (walk-none ws 0 (q / 512 / 512 / 512) none)))

-- one leaf's pages changed
pub EditsPages-leaf : (f : ℕ → ℕ) (start end : ℕ) (ws vs : List ℕ) → ((n : ℕ) → IsEntry n → IsEntry (f n)) → IsTable ws
    → 0 < read_by_walk ws 3 (start / 512) → start < end → end ≤ (start / 512 + 1) * 512 → length vs ≡ length ws
    → ((i : ℕ) → get_or vs i 0 ≡ cond (in_range ((read_by_walk ws 3 (start / 512) - 1) * 512 + start % 512)
    ((read_by_walk ws 3 (start / 512) - 1) * 512 + start % 512 + (end - start)) i) (f (get_or ws i 0)) (get_or ws i 0))
    → EditsPages f start end ws vs
EditsPages-leaf f start end ws vs keeps table leaf forward block size each =
    let b = start / 512 in
    let used = length ws / 512 in
    let lo = start % 512 in
    let hi = start % 512 + (end - start) in
    let high : hi ≤ 512 = omega arith in
    let at = (read_by_walk ws 3 b - 1) * 512 in
    let each' : (i : ℕ) → get_or vs i 0 ≡ cond (in_range (at + lo) (at + hi) i) (f (get_or ws i 0)) (get_or ws i 0) =
    λ i. each i ∙ ap (λ n. cond (in_range (at + lo) n i) (f (get_or ws i 0)) (get_or ws i 0))
    {x = at + lo + (end - start)} {y = at + hi} (omega arith) in
    record {
      table = record {
        whole = omega (arith, table.whole, size);
        tree = subst (λ n. IsTree vs (n / 512)) (sym size)
            (IsTree-edited ws used table.tree b leaf lo hi high f vs each' keeps size);
      };
      size = size;
      nodes = walk-edited ws used table.tree b leaf lo hi high f vs each';
      pages = λ q. lookup-edited ws used table.tree b leaf lo hi high f vs each' q
          ∙ ap (λ (n : ℕ). cond (in_range n (b * 512 + hi) q) (f (read_by_walk ws 4 q)) (read_by_walk ws 4 q))
          {x = b * 512 + lo} {y = start} (omega arith)
          ∙ ap (λ (n : ℕ). cond (in_range start n q) (f (read_by_walk ws 4 q)) (read_by_walk ws 4 q)) {x = b * 512 + hi}
          {y = end} (omega arith);
    }

-- nothing changed yet
pub EditsPages-none : (f : ℕ → ℕ) (start : ℕ) (ws : List ℕ) → IsTable ws → EditsPages f start start ws ws
EditsPages-none f start ws table = record {
  table = table;
  size = refl;
  nodes = λ d c le. refl;
  pages = λ q. (let missed : in_range start start q ≡ false = grind (arith, nat_tests) in rw missed refl);
}

module _ (f : ℕ → ℕ) (zeros : f 0 ≡ 0) where
  chosen_same : (t : Bool) (n : ℕ) → n ≡ 0 → cond t (f n) n ≡ 0
  chosen_same true n none = ap f none ∙ zeros
  chosen_same false n none = none

  -- one more page, before which no page has an entry
  pub EditsPages-next : (start page end next e : ℕ) (ws vs us : List ℕ) → start ≤ page → EditsPages f start page ws vs
      → IsNext vs page end next → e ≡ f (read_by_walk vs 4 next) → EditsPages (λ _. e) next (next + 1) vs us
      → EditsPages f start (next + 1) ws us
  EditsPages-next start page end next e ws vs us le done found e_is one = record {
    table = one.table;
    size = one.size ∙ done.size;
    nodes = λ d c low. one.nodes d c low ∙ done.nodes d c low;
    pages = λ q. one.pages q ∙ elim (cases_lt q page) [
      | inl below ↦
          let here : in_range next (next + 1) q ≡ false = (let low = found.low in grind (arith, nat_tests)) in
          let same : in_range start page q ≡ in_range start (next + 1) q =
          (let low = found.low in grind (arith, nat_tests)) in
          rw here (done.pages q ∙ ap (λ t. cond t (f (read_by_walk ws 4 q)) (read_by_walk ws 4 q)) same)
      | inr above ↦
          let old : read_by_walk vs 4 q ≡ read_by_walk ws 4 q =
          done.pages q
          ∙ (let missed : in_range start page q ≡ false = grind (arith, nat_tests) in rw missed refl) in
          elim (cases_lt q next) [
            | inl gap ↦
                let here : in_range next (next + 1) q ≡ false = grind (arith, nat_tests) in
                let none : read_by_walk ws 4 q ≡ 0 = sym old ∙ found.before q above gap in
                rw here (old ∙ none ∙ sym (chosen_same (in_range start (next + 1) q) (read_by_walk ws 4 q) none))
            | inr later ↦ elim (cases_eq q next) [
              | inl same ↦
                  let here : in_range next (next + 1) q ≡ true = grind (arith, nat_tests) in
                  let inside : in_range start (next + 1) q ≡ true = (let low = found.low in grind (arith, nat_tests)) in
                  rw (here, inside) (e_is ∙ ap f (ap (read_by_walk vs 4) (sym same) ∙ old))
              | inr past ↦
                  let here : in_range next (next + 1) q ≡ false = grind (arith, nat_tests) in
                  let out : in_range start (next + 1) q ≡ false = grind (arith, nat_tests) in
                  rw (here, out) old
            ]
          ]
    ];
  }

  -- no more pages
  pub EditsPages-all : (start page end most : ℕ) (ws vs : List ℕ) → start ≤ page → EditsPages f start page ws vs
      → ((q : ℕ) → page ≤ q → q < end → read_by_walk vs 4 q ≡ 0) → end ≡ min most (2 ^ 36) → (start < page → page ≤ end)
      → EditsPages f start most ws vs
  EditsPages-all start page end most ws vs le done none whole within = record {
    table = done.table;
    size = done.size;
    nodes = done.nodes;
    pages = λ q. done.pages q ∙ elim (cases_lt q page) [
      | inl below ↦ elim (cases_lt q start) [
        | inl out ↦
            let old : in_range start page q ≡ false = grind (arith, nat_tests) in
            let new : in_range start most q ≡ false = grind (arith, nat_tests) in
            rw (old, new) refl
        | inr in_it ↦
            let up_to : page ≤ end = within (omega arith) in
            let less : q < most = omega arith in
            let old : in_range start page q ≡ true = grind (arith, nat_tests) in
            let new : in_range start most q ≡ true = grind (arith, nat_tests) in
            rw (old, new) refl
      ]
      | inr above ↦
          let missed : in_range start page q ≡ false = grind (arith, nat_tests) in
          let old : read_by_walk vs 4 q ≡ read_by_walk ws 4 q = done.pages q ∙ rw missed refl in
          let gap : q < end → read_by_walk ws 4 q ≡ 0 = λ less. sym old ∙ none q above less in
          rw missed (elim (cases_lt q end) [
            | inl less ↦ gap less ∙ sym (chosen_same (in_range start most q) (read_by_walk ws 4 q) (gap less))
            | inr past ↦ elim (cases_lt q most) [
              | inl less ↦
                  let empty = walk-high ws q (omega arith) in
                  empty ∙ sym (chosen_same (in_range start most q) (read_by_walk ws 4 q) empty)
              | inr more ↦ (let out : in_range start most q ≡ false = grind (arith, nat_tests) in rw out refl)
            ]
          ])
    ];
  }

-- one page's entry set
pub EditsPages-set : (ws : List ℕ) (page e node : ℕ) → IsTable ws
    → 0 < read_by_walk ws 3 (page / 512) → IsEntry e → node ≡ read_by_walk ws 3 (page / 512)
    → EditsPages (λ _. e) page (page + 1) ws (set ws ((node - 1) * 512 + page % 512) e)
EditsPages-set ws page e node table leaf entry node_is =
    subst (λ (n : ℕ). EditsPages (λ _. e) page (page + 1) ws (set ws ((n - 1) * 512 + page % 512) e)) (sym node_is)
    (EditsPages-leaf (λ _. e) page (page + 1) ws _ (λ n is. entry) table leaf (omega arith) (omega arith)
    (simp length-set) each)
  where
    each : (i : ℕ)
        → get_or (set ws ((read_by_walk ws 3 (page / 512) - 1) * 512 + page % 512) e) i 0
        ≡ cond (in_range ((read_by_walk ws 3 (page / 512) - 1) * 512 + page % 512)
        ((read_by_walk ws 3 (page / 512) - 1) * 512 + page % 512 + (page + 1 - page)) i) e (get_or ws i 0)
    each i = elim (cases_eq i ((read_by_walk ws 3 (page / 512) - 1) * 512 + page % 512)) [
      | inl same ↦
          let inside : in_range ((read_by_walk ws 3 (page / 512) - 1) * 512 + page % 512)
          ((read_by_walk ws 3 (page / 512) - 1) * 512 + page % 512 + (page + 1 - page)) i ≡ true =
          grind (arith, nat_tests) in
          ap (λ n. get_or (set ws ((read_by_walk ws 3 (page / 512) - 1) * 512 + page % 512) e) n 0) same
          ∙ get_or-set_same ws ((read_by_walk ws 3 (page / 512) - 1) * 512 + page % 512) e 0
          (omega (arith, table.tree.walkable.within 3 (page / 512) (omega arith)))
          ∙ rw inside refl
      | inr other ↦
          let out : in_range ((read_by_walk ws 3 (page / 512) - 1) * 512 + page % 512)
          ((read_by_walk ws 3 (page / 512) - 1) * 512 + page % 512 + (page + 1 - page)) i ≡ false =
          grind (arith, nat_tests) in
          get_or-set_other ws ((read_by_walk ws 3 (page / 512) - 1) * 512 + page % 512) i e 0 other ∙ rw out refl
    ]
