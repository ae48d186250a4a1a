-- The table that words are, after a change of them.
use Rattle.std.proofs.Common.{◌≡◌, ◌≢◌, ℕ, zero, suc, ◌∷◌, ◌+◌, ◌-◌, ◌*◌, ◌/◌, ◌%◌, ◌^◌, ◌≤◌, ◌<◌, Bool, true}
use Rattle.std.proofs.Common.{false, cond, eqb, ltb, max, take, take_all, if◌then◌else◌, List, [], ◌++◌, length}
use Rattle.std.proofs.Common.{get_or, replicate, Option, Some, None, refl, sym, ap, ◌∙◌, subst, inl, inr, arith}
use Rattle.std.specs.Ordering.{nat_cmp}
use Rattle.std.specs.FinMap as maps
use Rattle.std.specs.Borrow.{Bor}
use Rattle.std.specs.Prelude.{Vec}
use Rattle.std.specs.Vec.{with_items}
use Rattle.std.proofs.lemmas.Bool.{cases_lt, cases_eq}
use Rattle.std.proofs.lemmas.Bool.Decides.{nat_tests}
use Rattle.std.proofs.lemmas.List.{with_items_is}
use Rattle.std.proofs.Math.ListN.{get_or-append}
use Rattle.std.proofs.Math.Seq.{get_or-append_right}
use Rattle.page_entry.specs.Entry.{Mapped, entry_of, bits_of, protected_of, IsEntry}
use Rattle.page_entry.proofs.Bits.{entry_of-bits_of, IsEntry-bits_of}
use Rattle.page_table.specs.Table.{TableState, is_grown, in_range, is_marked, put_entry}
use Rattle.page_table.specs.Table.{frames_protected, empty_table, HasGrown, GrowsOver}
use Rattle.page_table.specs.declared.change.Change.{Change}
use Rattle.page_table.specs.declared.change.Change.TheVariants.{Clear, MakeReadOnly, Protect}
use Rattle.page_table.specs.inside.Changes.{changed_by, changed_bits, ChangesRange}
use Rattle.page_table.specs.inside.Nodes.{word, read_by_walk, lookup, has_leaf, table_of, IsTree}
use Rattle.page_table.specs.inside.Nodes.{IsTable, EditsPages, GrowsPages, needed, missing}
use Rattle.page_table.specs.inside.Marks.{HasMarks, IsMarkedTable}
use Rattle.page_table.proofs.Entries.{same_table, same_entries, get-put_entry}
use Rattle.page_table.proofs.Entries.{get-frames_protected, maps_marked, get-empty_table, is_grown-empty_table}
use Rattle.page_table.proofs.Trees.{walk-zero, walk-suc, walk-none, walk-alike, word_of_node, word_of_none}
use Rattle.page_table.proofs.Links.{missing-none, missing-alike}
use Rattle.page_table.proofs.PageEdits.{walk-high}
use Rattle.page_table.proofs.View.{get_entry, is_grown-table_of}

pub nodes-table_of : (ws : List ℕ) → (table_of ws).nodes ≡ length ws / 512
unfolding table_of
nodes-table_of ws = refl

-- no change makes an absent entry present
changed-none : (change : Change) → changed_by change None ≡ None
changed-none Clear = refl
changed-none MakeReadOnly = refl
changed-none (Protect marked) = refl

-- an edit of the entries of a range makes the table with the entries that say so page by page
pub table_of-edited : (f : ℕ → ℕ) (start end : ℕ) (old new : List ℕ) (entries : maps.FinMap nat_cmp Mapped)
    → EditsPages f start end old new
    → ((q : ℕ) → maps.get entries q
    ≡ cond (in_range start end q) (entry_of (f (read_by_walk old 4 q))) (maps.get (table_of old).entries q))
    → table_of new ≡ record (table_of old) { entries = entries }
table_of-edited f start end old new entries edits each =
    same_table (table_of new) (record (table_of old) { entries = entries })
    (λ q. get_entry new q ∙ ap entry_of (edits.pages q)
    ∙ inner (in_range start end q) (f (read_by_walk old 4 q)) (read_by_walk old 4 q)
    ∙ ap (cond (in_range start end q) (entry_of (f (read_by_walk old 4 q)))) (sym (get_entry old q)) ∙ sym (each q))
    (λ q.
    is_grown-table_of new q ∙ ap (λ n. ltb 0 n) (edits.nodes 3 (q / 512) (omega arith)) ∙ sym (is_grown-table_of old q))
    (nodes-table_of new ∙ ap (λ n. n / 512) edits.size ∙ sym (nodes-table_of old))
  where
    inner : (b : Bool) (m n : ℕ) → entry_of (cond b m n) ≡ cond b (entry_of m) (entry_of n)
    inner true m n = refl
    inner false m n = refl

-- what a change does to the entry that a table has
changed_entry : (change : Change) (ws : List ℕ) (q : ℕ)
    → entry_of (changed_bits change (read_by_walk ws 4 q)) ≡ changed_by change (maps.get (table_of ws).entries q)
changed_entry change ws q =
    entry_of-bits_of (changed_by change (lookup ws q))
    ∙ ap (changed_by change) (sym (get_entry ws q))

pub table_of-changed : (change : Change) (start end : ℕ) (old new : List ℕ)
    → EditsPages (changed_bits change) start end old new
    → ChangesRange change start end (table_of old) (table_of new)
table_of-changed change start end old new edits entries each =
    table_of-edited (changed_bits change) start end old new entries edits
    (λ q. each q
    ∙ ap (λ e. cond (in_range start end q) e (maps.get (table_of old).entries q)) (sym (changed_entry change old q)))

-- all pages whose entries map marked frames
pub table_of-protected : (marked : Bor (List Bool)) (old new : List ℕ)
    → EditsPages (changed_bits (Protect marked)) 0 (2 ^ 36) old new
    → table_of new ≡ record (table_of old) { entries = frames_protected (table_of old).entries marked.now }
table_of-protected marked old new edits =
    table_of-changed (Protect marked) 0 (2 ^ 36) old new edits _
    (λ q. get-frames_protected (table_of old).entries marked.now q
    ∙ everywhere q (maps.get (table_of old).entries q) (λ high. get_entry old q ∙ ap entry_of (walk-high old q high)))
  where
    by_mark : (e : Option Mapped)
        → (if maps_marked marked.now e then protected_of e else e) ≡ changed_by (Protect marked) e
    by_mark None = refl
    by_mark (Some entry) = elim (is_marked marked.now entry.frame)
        as (λ b. cond b (Some (record entry { writable = false; dirty = false })) (Some entry)
        ≡ Some (cond b (record entry { writable = false; dirty = false }) entry)) [ true ↦ refl | false ↦ refl ]

    everywhere : (q : ℕ) (e : Option Mapped) → (2 ^ 36 ≤ q → e ≡ None)
        → (if maps_marked marked.now e then protected_of e else e)
        ≡ cond (in_range 0 (2 ^ 36) q) (changed_by (Protect marked) e) e
    everywhere q e none =
        by_mark e ∙ elim (cases_lt q (2 ^ 36)) [
          | inl low ↦ let inside : in_range 0 (2 ^ 36) q ≡ true = grind (arith, nat_tests) in rw inside refl
          | inr high ↦
              let outside : in_range 0 (2 ^ 36) q ≡ false = grind (arith, nat_tests) in
              let absent = none high in
              rw (outside, absent) refl
        ]

-- the page with another entry
pub table_of-set : (page : ℕ) (e : Option Mapped) (bits : ℕ) (old new : List ℕ)
    → bits ≡ bits_of e → EditsPages (λ _. bits) page (page + 1) old new
    → table_of new ≡ record (table_of old) { entries = put_entry (table_of old).entries page e }
table_of-set page e bits old new is edits =
    table_of-edited (λ _. bits) page (page + 1) old new _ edits
    (λ q.
    get-put_entry (table_of old).entries page e q ∙ ap (λ b. cond b e (maps.get (table_of old).entries q)) (here q)
    ∙ ap (λ x. cond (in_range page (page + 1) q) x (maps.get (table_of old).entries q))
    (sym (ap entry_of is ∙ entry_of-bits_of e)))
  where
    here : (q : ℕ) → eqb q page ≡ in_range page (page + 1) q
    here q = grind (arith, nat_tests)

-- a vector whose elements were written over by as many
pub written_over : {X Z : Type 0} (v : Vec X Z) (old new : List X) → length new ≡ length old → old ≡ v.items
    → (with_items v new).items ≡ new
written_over v old new size is = with_items_is v new (omega (arith, size, ap length is, v.ok.0))

-- the table after a change that wrote its words over
pub table_of-written : {Z : Type 0} (words : Vec ℕ Z) (old new : List ℕ) (was : TableState)
    (Changes : TableState → TableState → Type 0)
    → length new ≡ length old → old ≡ words.items → table_of words.items ≡ was → Changes (table_of old) (table_of new)
    → Changes was (table_of (with_items words new).items)
table_of-written words old new was Changes size is view made =
    subst (Changes was) (sym (ap table_of (written_over words old new size is)))
    (subst (λ t. Changes t (table_of new)) (ap table_of is ∙ view) made)

-- and its marks, where these were written over with it
pub marked_written : {Z : Type 0} (words present in_use : Vec ℕ Z) {ws ps us ws' ps' us' : List ℕ}
    → (ws ≡ words.items) × (length ws' ≡ length ws) → (ps ≡ present.items) × (length ps' ≡ length ps)
    → (us ≡ in_use.items) × (length us' ≡ length us) → IsTable ws' → HasMarks ws' ps' us'
    → IsMarkedTable (with_items words ws').items (with_items present ps').items (with_items in_use us').items
marked_written words present in_use {ws} {ps} {us} {ws'} {ps'} {us'} w p u table marks =
    rw (written_over words ws ws' w.1 w.0, written_over present ps ps' p.1 p.0, written_over in_use us us' u.1 u.0)
    (record { table = table; marks = marks })

-- what has grown in the table
grown_is : (ws : List ℕ) (q : ℕ) → is_grown (table_of ws) q ≡ true → 0 < read_by_walk ws 3 (q / 512)
grown_is ws q grown = let leaf : has_leaf ws q ≡ true = sym (is_grown-table_of ws q) ∙ grown in grind (arith, nat_tests)

is_grown_from : (ws : List ℕ) (q : ℕ) → 0 < read_by_walk ws 3 (q / 512) → is_grown (table_of ws) q ≡ true
is_grown_from ws q leaf = is_grown-table_of ws q ∙ grind (arith, nat_tests)

pub leaf_of_grown : (ws : List ℕ) (t : TableState) (q : ℕ) → table_of ws ≡ t → is_grown t q ≡ true
    → 0 < read_by_walk ws 3 (q / 512)
leaf_of_grown ws t q is grown = grown_is ws q (ap (λ (s : TableState). is_grown s q) is ∙ grown)

-- growth of the words is growth of the table
pub GrowsOver-linked : (start end : ℕ) (ws more new : List ℕ) → start < end
    → ((i : ℕ) → get_or more i 0 ≡ get_or ws i 0) → GrowsPages start end more new
    → GrowsOver start end (table_of ws) (table_of new)
GrowsOver-linked start end ws more new some alike grows =
    let same = λ (d b : ℕ). walk-alike ws more alike d b in
    let contradiction = λ (q : ℕ) (grown : is_grown (table_of new) q ≡ true)
    (not_grown : is_grown (table_of ws) q ≡ false) (outside : start / 512 ≤ q / 512 → (end - 1) / 512 < q / 512).
    let leaf : 0 < read_by_walk ws 3 (q / 512) =
    subst (λ (n : ℕ). 0 < n) (grows.others (q / 512) outside ∙ same 3 (q / 512)) (grown_is new q grown) in
    let old : is_grown (table_of ws) q ≡ true = is_grown_from ws q leaf in
    let never : ⊥ = cc in never in
    record {
      same_entries =
          same_entries _ _ (λ q. get_entry new q ∙ ap entry_of (grows.entries q ∙ same 4 q) ∙ sym (get_entry ws q));
      range_grown = λ q low high. is_grown_from new q (grows.grown (q / 512) (omega arith) (omega arith));
      still_grown = λ q grown. (let before : 0 < read_by_walk more 3 (q / 512) =
          subst (λ (n : ℕ). 0 < n) (sym (same 3 (q / 512))) (grown_is ws q grown) in
          is_grown_from new q (subst (λ (n : ℕ). 0 < n) (sym (grows.kept (q / 512) before)) before));
      no_more = λ q grown not_grown. elim (cases_lt (q / 512) (start / 512)) [
        | inl below ↦ absurd (contradiction q grown not_grown (λ low. omega arith))
        | inr low ↦ elim (cases_lt ((end - 1) / 512) (q / 512)) [
          | inl past ↦ absurd (contradiction q grown not_grown (λ low. past))
          | inr high ↦ (low, high)
        ]
      ];
    }

-- a table whose range has grown already
pub GrowsOver-none : (start end : ℕ) (t : TableState) → HasGrown start end t → GrowsOver start end t t
GrowsOver-none start end t all = record {
  same_entries = refl;
  range_grown = all;
  still_grown = λ q grown. grown;
  no_more = λ q grown not_grown. absurd (cc);
}

-- a range that isn't there has grown
pub GrowsOver-empty : (start end : ℕ) (t : TableState) → end ≤ start → GrowsOver start end t t
GrowsOver-empty start end t le = GrowsOver-none start end t (λ q low high. absurd (omega arith))

missing-zero : (ws : List ℕ) (depth first n : ℕ) → missing ws depth first n ≡ 0 → (b : ℕ) → first ≤ b → b < first + n
    → 0 < read_by_walk ws depth b
missing-zero ws depth first zero none b low high = absurd (omega arith)
missing-zero ws depth first (suc n) none b low high =
    by_block (eqb (read_by_walk ws depth first) 0) refl none
    (λ rest other. missing-zero ws depth (first + 1) n rest b (let differs = other in omega arith) (omega arith))
  where
    by_block : (t : Bool) → eqb (read_by_walk ws depth first) 0 ≡ t → cond t 1 0 + missing ws depth (first + 1) n ≡ 0
        → (missing ws depth (first + 1) n ≡ 0 → first ≢ b → 0 < read_by_walk ws depth b)
        → 0 < read_by_walk ws depth b
    by_block true here sum later = absurd (omega arith)
    by_block false here sum later = elim (cases_eq first b) [
      | inl same ↦ subst (λ n. 0 < read_by_walk ws depth n) same (grind (arith, nat_tests))
      | inr other ↦ later (omega arith) other
    ]

-- where nothing is needed, the range has grown
pub HasGrown-needed : (ws : List ℕ) (start end : ℕ) → start < end → needed ws start end ≡ 0
    → HasGrown start end (table_of ws)
HasGrown-needed ws start end some none q low high =
    is_grown_from ws q (missing-zero ws 3 (start / 512) ((end - 1) / 512 + 1 - start / 512) (omega arith) (q / 512)
    (omega arith) (omega arith))

some_up : (ws : List ℕ) (d b : ℕ) → 0 < read_by_walk ws (suc d) b → 0 < read_by_walk ws d (b / 512)
some_up ws d b some = elim (cases_eq (read_by_walk ws d (b / 512)) 0) [
  | inl none ↦ absurd (let empty = walk-none ws d b none in omega arith)
  | inr other ↦ omega arith
]

-- and where it has grown nothing is
pub needed-none : (ws : List ℕ) (start end : ℕ) → start < end → HasGrown start end (table_of ws)
    → needed ws start end ≡ 0
needed-none ws start end some all =
    let leaf = λ (q : ℕ) (low : start ≤ q) (high : q < end). grown_is ws q (all q low high) in
    let middle = λ (q : ℕ) (low : start ≤ q) (high : q < end). some_up ws 2 (q / 512) (leaf q low high) in
    let top = λ (q : ℕ) (low : start ≤ q) (high : q < end). some_up ws 1 (q / 512 / 512) (middle q low high) in
    let leaves : missing ws 3 (start / 512) ((end - 1) / 512 + 1 - start / 512) ≡ 0 =
    missing-none ws 3 _ _ (λ b low high. subst (λ n. 0 < read_by_walk ws 3 n) {x = max start (b * 512) / 512} {y = b}
    (omega arith) (leaf (max start (b * 512)) (omega arith) (omega arith))) in
    let middles : missing ws 2 (start / 2 ^ 18) ((end - 1) / 2 ^ 18 + 1 - start / 2 ^ 18) ≡ 0 =
    missing-none ws 2 _ _ (λ b low high. subst (λ n. 0 < read_by_walk ws 2 n) {x = max start (b * 2 ^ 18) / 512 / 512}
    {y = b} (omega arith) (middle (max start (b * 2 ^ 18)) (omega arith) (omega arith))) in
    let tops : missing ws 1 (start / 2 ^ 27) ((end - 1) / 2 ^ 27 + 1 - start / 2 ^ 27) ≡ 0 =
    missing-none ws 1 _ _
    (λ b low high. subst (λ n. 0 < read_by_walk ws 1 n) {x = max start (b * 2 ^ 27) / 512 / 512 / 512} {y = b}
    (omega arith) (top (max start (b * 2 ^ 27)) (omega arith) (omega arith))) in
    omega arith

-- words that read alike need alike, and are the same tree
pub needed-alike : (ws more : List ℕ) (start end : ℕ) → ((i : ℕ) → get_or more i 0 ≡ get_or ws i 0)
    → needed more start end ≡ needed ws start end
needed-alike ws more start end alike =
    let one = missing-alike ws more 1 (start / 2 ^ 27) ((end - 1) / 2 ^ 27 + 1 - start / 2 ^ 27)
    (λ b low high. walk-alike ws more alike 1 b) in
    let two = missing-alike ws more 2 (start / 2 ^ 18) ((end - 1) / 2 ^ 18 + 1 - start / 2 ^ 18)
    (λ b low high. walk-alike ws more alike 2 b) in
    let three = missing-alike ws more 3 (start / 512) ((end - 1) / 512 + 1 - start / 512)
    (λ b low high. walk-alike ws more alike 3 b) in
    omega arith

pub IsTree-alike : (ws more : List ℕ) (used : ℕ)
    → ((i : ℕ) → get_or more i 0 ≡ get_or ws i 0) → length ws ≤ length more → IsTree ws used
    → IsTree more used
IsTree-alike ws more used alike longer is = record {
  root = is.root;
  room = omega (arith, is.room);
  walkable = record { within = λ d b le. omega (arith, walk-alike ws more alike d b, is.walkable.within d b le) };
  below = λ d b le. omega (arith, walk-alike ws more alike d b, is.below d b le);
  apart = λ d b e c le low some same. is.apart d b e c le low (omega (arith, walk-alike ws more alike d b))
      (sym (walk-alike ws more alike d b) ∙ same ∙ walk-alike ws more alike e c);
  unused = λ i past. alike i ∙ is.unused i past;
  entries = λ q. subst IsEntry (sym (walk-alike ws more alike 4 q)) (is.entries q);
}

zeros : (n i : ℕ) → ◌≡◌ {A = ℕ} (get_or (replicate n 0) i 0) 0
zeros zero i = refl
zeros (suc n) zero = refl
zeros (suc n) (suc i) = zeros n i

past_end : (xs : List ℕ) (i : ℕ) → length xs ≤ i → get_or xs i 0 ≡ 0
past_end [] i le = refl
past_end (x ∷ xs) zero le = absurd (omega arith)
past_end (x ∷ xs) (suc i) le = past_end xs i (omega arith)

-- words with zeros after them read alike
pub alike_with_zeros : (ws more : List ℕ) (n m : ℕ) → length ws ≤ n → more ≡ take n ws ++ replicate m 0 → (i : ℕ)
    → get_or more i 0 ≡ get_or ws i 0
alike_with_zeros ws more n m le is i =
    ap (λ l. get_or l i 0) (is ∙ ap (λ l. l ++ replicate m 0) (take_all n ws le))
    ∙ elim (cases_lt i (length ws)) [
      | inl within ↦ get_or-append ws (replicate m 0) 0 i within
      | inr past ↦ get_or-append_right ws (replicate m 0) i 0 past ∙ zeros m (i - length ws) ∙ sym (past_end ws i past)
    ]

-- a root alone
module _ (ws : List ℕ) (long : length ws ≡ 512) (blank : (i : ℕ) → get_or ws i 0 ≡ 0) where
  blank_word : (k p : ℕ) → word ws k p ≡ 0
  blank_word k p = elim (cases_eq k 0) [
    | inl none ↦ word_of_none ws k p none
    | inr node ↦ word_of_node ws k p (omega arith) ∙ blank ((k - 1) * 512 + p)
  ]

  pub blank_walk : (d b : ℕ) → read_by_walk ws (suc d) b ≡ 0
  blank_walk d b = walk-suc ws d b ∙ blank_word (read_by_walk ws d (b / 512)) (b % 512)

  root_only : (d b : ℕ) → 0 < read_by_walk ws d b → (d ≡ 0) × (b ≡ 0)
  root_only zero b some = (refl, by_block (eqb b 0) refl (subst (λ (n : ℕ). 0 < n) (walk-zero ws b) some))
    where
      by_block : (t : Bool) → eqb b 0 ≡ t → 0 < cond t 1 0 → b ≡ 0
      by_block true here some = grind (arith, nat_tests)
      by_block false here some = absurd (omega arith)
  root_only (suc d) b some = absurd (let none = blank_walk d b in omega arith)

  at_most_one : (d b : ℕ) → read_by_walk ws d b ≤ 1
  at_most_one zero b = subst (λ (n : ℕ). n ≤ 1) (sym (walk-zero ws b)) (by_block (eqb b 0))
    where
      by_block : (t : Bool) → cond t 1 0 ≤ 1
      by_block true = omega arith
      by_block false = omega arith
  at_most_one (suc d) b = let none = blank_walk d b in omega arith

  pub IsTable-root : IsTable ws
  IsTable-root = record {
    whole = omega (arith, long);
    tree = subst (IsTree ws) {x = 1} {y = length ws / 512} (omega (arith, long)) (record {
      root = omega arith;
      room = omega (arith, long);
      walkable = record { within = λ d b le. let most = at_most_one d b in omega (arith, long) };
      below = λ d b le. at_most_one d b;
      apart = λ d b e c le low some same. let one = root_only d b some in
          let two = root_only e c (subst (λ (n : ℕ). 0 < n) same some) in (one.0 ∙ sym two.0, one.1 ∙ sym two.1);
      unused = λ i past. blank i;
      entries = λ q. subst IsEntry (sym (blank_walk 3 q)) (IsEntry-bits_of None tt);
    });
  }

  pub table_of-root : table_of ws ≡ empty_table
  table_of-root = same_table (table_of ws) empty_table
      (λ q. get_entry ws q ∙ ap entry_of (blank_walk 3 q) ∙ sym (get-empty_table q))
      (λ q. is_grown-table_of ws q ∙ ap (λ n. ltb 0 n) (blank_walk 2 (q / 512)) ∙ sym (is_grown-empty_table q))
      (nodes-table_of ws ∙ (omega (arith, long)))

blank_from : (ws : List ℕ) (n m : ℕ) → ws ≡ take n [] ++ replicate m 0 → (i : ℕ) → get_or ws i 0 ≡ 0
blank_from ws n m is i = alike_with_zeros [] ws n m (omega arith) is i

pub root_words : (old ws : List ℕ) (n m : ℕ) → old ≡ [] → ws ≡ take n old ++ replicate m 0 → (i : ℕ) → get_or ws i 0 ≡ 0
root_words old ws n m none is i = blank_from ws n m (is ∙ ap (λ l. take n l ++ replicate m 0) none) i
