-- What marks say of entries after a page was set, after growth, and after all present entries were changed.
use Rattle.std.proofs.Common.{◌≡◌, ℕ, ◌+◌, ◌-◌, ◌*◌, ◌/◌, ◌%◌, ◌^◌, ◌<◌, ◌≤◌, Bool, true, false, eqb}
use Rattle.std.proofs.Common.{ltb, List, length, get_or, refl, sym, ap, ◌∙◌, subst, inl, inr, arith}
use Rattle.std.proofs.lemmas.Bool.{cases_eq}
use Rattle.std.specs.Int.{bit_at}
use Rattle.std.proofs.lemmas.Nat.Bits.{bit_at-zero}
use Rattle.page_entry.specs.Entry.{IsEntry}
use Rattle.page_table.specs.Table.{in_range}
use Rattle.page_table.specs.inside.Nodes.{read_by_walk, IsTable, EditsPages, GrowsPages}
use Rattle.page_table.specs.Bits.{is_set, Marks}
use Rattle.page_table.specs.inside.Marks.{place_of, IsOfPage, MarksEntries, HasMarks, Extends}
use Rattle.page_table.proofs.Trees.{walk-suc, walk-none, walk-alike, word_of_node}
use Rattle.page_table.proofs.Choices.{eq_true, eq_false, within_range, other_than, none_of}

-- the word that is read for a page
pub read_place : (ws : List ℕ) (q : ℕ) → 0 < read_by_walk ws 3 (q / 512)
    → read_by_walk ws 4 q ≡ get_or ws (place_of ws q) 0
read_place ws q leaf = walk-suc ws 3 q ∙ word_of_node ws (read_by_walk ws 3 (q / 512)) (q % 512) leaf

pub place_within : (ws : List ℕ) (q : ℕ) → IsTable ws → 0 < read_by_walk ws 3 (q / 512) → place_of ws q < length ws
place_within ws q table leaf = omega (arith, table.tree.walkable.within 3 (q / 512) (omega arith))

-- the places of two pages differ
pub same_page : (ws : List ℕ) → IsTable ws → (q p : ℕ) → 0 < read_by_walk ws 3 (q / 512)
    → 0 < read_by_walk ws 3 (p / 512) → place_of ws q ≡ place_of ws p
    → q ≡ p
same_page ws table q p leaf other same =
    let block = (table.tree.apart 3 (q / 512) 3 (p / 512) (omega arith) (omega arith) leaf (omega arith)).1 in
    omega arith

-- a marked word is within the words, and an entry
pub marked_within : (ws present : List ℕ) → IsTable ws → MarksEntries ws present → (i : ℕ) → is_set present i ≡ true
    → (i < length ws) × IsEntry (get_or ws i 0)
marked_within ws present table marks i marked =
    let found = marks.pages i marked in
    let page = found.0 in
    let leaf = found.1.leaf in
    let same = found.1.same in
    let within = place_within ws page table leaf in (
      omega arith,
      subst IsEntry (read_place ws page leaf ∙ ap (λ n. get_or ws n 0) (sym same)) (table.tree.entries page),
    )

-- an entry that isn't marked is absent
pub unmarked : (ws present : List ℕ) → MarksEntries ws present → (q : ℕ)
    → 0 < read_by_walk ws 3 (q / 512) → is_set present (place_of ws q) ≡ false
    → read_by_walk ws 4 q ≡ 0
unmarked ws present marks q leaf none =
    none_of (read_by_walk ws 4 q) (is_set present (place_of ws q)) (marks.entries q leaf) none

-- a page that was set
module _ (ws vs present now in_use used : List ℕ) (page node e : ℕ) (table : IsTable ws)
    (marks : HasMarks ws present in_use) (leaf : 0 < read_by_walk ws 3 (page / 512))
    (node_is : node ≡ read_by_walk ws 3 (page / 512) - 1)
    (edits : EditsPages (λ _. e) page (page + 1) ws vs) (t u : Bool) (t_is : t ≡ ltb 0 e)
    (one : Marks (node * 512 + page % 512) t present now) (two : Marks node u in_use used)
    (busy : u ≡ false → (i : ℕ) → node * 512 ≤ i → i < (node + 1) * 512 → is_set now i ≡ false) where
  place_same : (q : ℕ) → place_of vs q ≡ place_of ws q
  place_same q = ap (λ n. (n - 1) * 512 + q % 512) (edits.nodes 3 (q / 512) (omega arith))

  here : place_of ws page ≡ node * 512 + page % 512
  here = ap (λ n. n * 512 + page % 512) (sym node_is)

  entry_at : (q : ℕ) → 0 < read_by_walk ws 3 (q / 512) → is_set now (place_of ws q) ≡ ltb 0 (read_by_walk vs 4 q)
  entry_at q some = one.bits (place_of ws q) ∙ elim (cases_eq q page) [
    | inl same ↦
        let at : eqb (place_of ws q) (node * 512 + page % 512) ≡ true = eq_true _ _ (ap (place_of ws) same ∙ here) in
        let inside : in_range page (page + 1) q ≡ true = within_range page (page + 1) q (omega arith) (omega arith) in
        let set_to : read_by_walk vs 4 q ≡ e = edits.pages q ∙ rw inside refl in
        rw at (t_is ∙ ap (λ n. ltb 0 n) (sym set_to))
    | inr other ↦
        let at : eqb (place_of ws q) (node * 512 + page % 512) ≡ false =
        eq_false _ _ (λ same. other (same_page ws table q page some leaf (same ∙ sym here))) in
        let out : in_range page (page + 1) q ≡ false = other_than page q other in
        let kept : read_by_walk vs 4 q ≡ read_by_walk ws 4 q = edits.pages q ∙ rw out refl in
        rw at (marks.marked.entries q some ∙ ap (λ n. ltb 0 n) (sym kept))
  ]

  page_of : (i : ℕ) → is_set now i ≡ true → (q : ℕ) × IsOfPage vs i q
  page_of i set_now = elim (cases_eq i (node * 512 + page % 512)) [
    | inl same ↦ (
      page,
      record {
        leaf = subst (λ (n : ℕ). 0 < n) (sym (edits.nodes 3 (page / 512) (omega arith))) leaf;
        same = same ∙ sym here ∙ sym (place_same page);
      },
    )
    | inr other ↦
        let at : eqb i (node * 512 + page % 512) ≡ false = eq_false i (node * 512 + page % 512) other in
        let before : is_set present i ≡ true = sym (one.bits i ∙ rw at refl) ∙ set_now in
        let found = marks.marked.pages i before in (
          found.0,
          record {
            leaf = subst (λ (n : ℕ). 0 < n) (sym (edits.nodes 3 (found.0 / 512) (omega arith))) found.1.leaf;
            same = found.1.same ∙ sym (place_same found.0);
          },
        )
  ]

  by_use : (i : ℕ) → i / 512 ≡ node → is_set now i ≡ true → (b : Bool) → u ≡ b → u ≡ true
  by_use i same set_now true is = is
  by_use i same set_now false is = absurd (let none = busy is i (omega arith) (omega arith) in cc)

  used_at : (i : ℕ) → is_set now i ≡ true → is_set used (i / 512) ≡ true
  used_at i set_now = two.bits (i / 512) ∙ elim (cases_eq (i / 512) node) [
    | inl same ↦
        let at : eqb (i / 512) node ≡ true = eq_true (i / 512) node same in
        rw at (by_use i same set_now u refl)
    | inr other ↦
        let at : eqb (i / 512) node ≡ false = eq_false (i / 512) node other in
        let elsewhere : eqb i (node * 512 + page % 512) ≡ false =
        eq_false i (node * 512 + page % 512) (λ same. other (omega arith)) in
        let before : is_set present i ≡ true = sym (one.bits i ∙ rw elsewhere refl) ∙ set_now in
        rw at (marks.used i before)
  ]

  node_at : (n : ℕ) → is_set used n ≡ true → (n + 1) * 512 ≤ length vs
  node_at n set_now = elim (cases_eq n node) [
    | inl same ↦ omega (arith, edits.size, table.tree.walkable.within 3 (page / 512) (omega arith))
    | inr other ↦
        let at : eqb n node ≡ false = eq_false n node other in
        let before : is_set in_use n ≡ true = sym (two.bits n ∙ rw at refl) ∙ set_now in
        omega (arith, marks.nodes n before, edits.size)
  ]

  pub HasMarks-set : HasMarks vs now used
  HasMarks-set = record {
    marked = record {
      ample = omega (arith, marks.marked.ample, edits.size, one.size);
      entries = λ q some. ap (is_set now) (place_same q)
          ∙ entry_at q (subst (λ (n : ℕ). 0 < n) (edits.nodes 3 (q / 512) (omega arith)) some);
      pages = page_of;
    };
    ample = omega (arith, marks.ample, edits.size, two.size);
    used = used_at;
    nodes = node_at;
  }

-- the same marks where the same entries are present in the same nodes
pub HasMarks-same : (ws vs present in_use : List ℕ) → length vs ≡ length ws
    → ((d b : ℕ) → d ≤ 3 → read_by_walk vs d b ≡ read_by_walk ws d b)
    → ((q : ℕ) → ltb 0 (read_by_walk vs 4 q) ≡ ltb 0 (read_by_walk ws 4 q)) → HasMarks ws present in_use
    → HasMarks vs present in_use
HasMarks-same ws vs present in_use size nodes alike marks = record {
  marked = record {
    ample = omega (arith, marks.marked.ample, size);
    entries = λ q some. ap (is_set present) (place_same q)
        ∙ marks.marked.entries q (subst (λ (n : ℕ). 0 < n) (nodes 3 (q / 512) (omega arith)) some) ∙ sym (alike q);
    pages = λ i marked. (let found = marks.marked.pages i marked in (
      found.0,
      record {
        leaf = subst (λ (n : ℕ). 0 < n) (sym (nodes 3 (found.0 / 512) (omega arith))) found.1.leaf;
        same = found.1.same ∙ sym (place_same found.0);
      },
    ));
  };
  ample = omega (arith, marks.ample, size);
  used = marks.used;
  nodes = λ n some. omega (arith, marks.nodes n some, size);
}
  where
    place_same : (q : ℕ) → place_of vs q ≡ place_of ws q
    place_same q = ap (λ n. (n - 1) * 512 + q % 512) (nodes 3 (q / 512) (omega arith))

-- a mask that is longer
pub same_bits : (old new : List ℕ) → ((i : ℕ) → get_or new i 0 ≡ get_or old i 0) → (i : ℕ) → is_set new i ≡ is_set old i
same_bits old new alike i = ap (λ n. eqb (n / 2 ^ (i % 64) % 2) 1) (alike (i / 64))

pub Extends-none : (count : ℕ) (old : List ℕ) → count ≤ length old → Extends count old old
Extends-none count old le = record { long = le; longer = omega arith; alike = λ i. refl }

pub HasMarks-extended : (ws present now in_use used : List ℕ) (m n : ℕ)
    → Extends m present now → Extends n in_use used → HasMarks ws present in_use
    → HasMarks ws now used
HasMarks-extended ws present now in_use used m n one two marks = record {
  marked = record {
    ample = omega (arith, marks.marked.ample, one.longer);
    entries = λ q some. same_bits present now one.alike (place_of ws q) ∙ marks.marked.entries q some;
    pages = λ i marked. marks.marked.pages i (sym (same_bits present now one.alike i) ∙ marked);
  };
  ample = omega (arith, marks.ample, two.longer);
  used = λ i marked.
      same_bits in_use used two.alike (i / 512) ∙ marks.used i (sym (same_bits present now one.alike i) ∙ marked);
  nodes = λ k some. marks.nodes k (sym (same_bits in_use used two.alike k) ∙ some);
}

-- growth
module _ (start end : ℕ) (ws more vs present in_use : List ℕ) (alike : (i : ℕ) → get_or more i 0 ≡ get_or ws i 0)
    (longer : length ws ≤ length vs) (grows : GrowsPages start end more vs) (marks : HasMarks ws present in_use) where
  kept : (b : ℕ) → 0 < read_by_walk ws 3 b → read_by_walk vs 3 b ≡ read_by_walk ws 3 b
  kept b leaf =
      grows.kept b (subst (λ (n : ℕ). 0 < n) (sym (walk-alike ws more alike 3 b)) leaf)
      ∙ walk-alike ws more alike 3 b

  kept_place : (q : ℕ) → 0 < read_by_walk ws 3 (q / 512) → place_of vs q ≡ place_of ws q
  kept_place q leaf = ap (λ n. (n - 1) * 512 + q % 512) (kept (q / 512) leaf)

  still_of : (i : ℕ) (q : ℕ) → IsOfPage ws i q → IsOfPage vs i q
  still_of i q is = record {
    leaf = subst (λ (n : ℕ). 0 < n) (sym (kept (q / 512) is.leaf)) is.leaf;
    same = is.same ∙ sym (kept_place q is.leaf);
  }

  -- a new leaf has no marks yet
  fresh : (q : ℕ) → 0 < read_by_walk vs 3 (q / 512) → read_by_walk ws 3 (q / 512) ≡ 0
      → (b : Bool) → is_set present (place_of vs q) ≡ b
      → b ≡ false
  fresh q leaf none false is = refl
  fresh q leaf none true is =
      let found = marks.marked.pages (place_of vs q) is in
      let new = still_of (place_of vs q) found.0 found.1 in
      let same : q ≡ found.0 = same_page vs grows.table q found.0 leaf new.leaf new.same in
      absurd (let old : 0 < read_by_walk ws 3 (q / 512) =
      subst (λ n. 0 < read_by_walk ws 3 (n / 512)) (sym same) found.1.leaf in omega arith)

  pub HasMarks-grown : length vs ≤ length present * 64 → length vs ≤ length in_use * 64 * 512
      → HasMarks vs present in_use
  HasMarks-grown ample ample_nodes = record {
    marked = record {
      ample = ample;
      entries = λ q leaf.
          let entry : read_by_walk vs 4 q ≡ read_by_walk ws 4 q = grows.entries q ∙ walk-alike ws more alike 4 q in
          elim (cases_eq (read_by_walk ws 3 (q / 512)) 0) [
            | inl none ↦ fresh q leaf none (is_set present (place_of vs q)) refl
                ∙ ap (λ n. ltb 0 n) (sym (entry ∙ walk-none ws 3 q none))
            | inr some ↦ ap (is_set present) (kept_place q (omega arith))
                ∙ marks.marked.entries q (omega arith)
                ∙ ap (λ n. ltb 0 n) (sym entry)
          ];
      pages = λ i marked. (let found = marks.marked.pages i marked in (found.0, still_of i found.0 found.1));
    };
    ample = ample_nodes;
    used = marks.used;
    nodes = λ n some. omega (arith, marks.nodes n some, longer);
  }

-- no marks
pub no_bit_set : (mask : List ℕ) → ((i : ℕ) → get_or mask i 0 ≡ 0) → (i : ℕ) → is_set mask i ≡ false
no_bit_set mask blank i =
    ap (λ n. eqb (bit_at n (i % 64)) 1) (blank (i / 64))
    ∙ ap (λ n. eqb n 1) (bit_at-zero (i % 64))

pub HasMarks-blank : (ws present in_use : List ℕ) → length ws ≤ length present * 64
    → length ws ≤ length in_use * 64 * 512 → ((q : ℕ) → read_by_walk ws 3 (q / 512) ≡ 0)
    → ((i : ℕ) → get_or present i 0 ≡ 0) → ((i : ℕ) → get_or in_use i 0 ≡ 0)
    → HasMarks ws present in_use
HasMarks-blank ws present in_use ample ample_nodes none one two = record {
  marked = record {
    ample = ample;
    entries = λ q some. absurd (let no = none q in omega arith);
    pages = λ i marked. absurd (let no = no_bit_set present one i in cc);
  };
  ample = ample_nodes;
  used = λ i marked. absurd (let no = no_bit_set present one i in cc);
  nodes = λ n some. absurd (let no = no_bit_set in_use two n in cc);
}
