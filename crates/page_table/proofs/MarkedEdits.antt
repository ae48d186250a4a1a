-- Edits of the marked words, node by node, and the table that they leave.
use Rattle.std.proofs.Common.{◌≡◌, ℕ, ◌+◌, ◌-◌, ◌*◌, ◌/◌, ◌%◌, ◌^◌, ◌<◌, ◌≤◌, Bool, true, false, cond}
use Rattle.std.proofs.Common.{◌&&◌, ltb, List, length, get_or, set, refl, sym, ap, ◌∙◌, subst, inl, inr, arith}
use Rattle.std.proofs.lemmas.Bool.{cases_eq, cases_lt}
use Rattle.std.proofs.lemmas.Bool.Decides.{nat_tests}
use Rattle.std.proofs.lemmas.List.{length-set, get_or-set_same, get_or-set_other}
use Rattle.page_entry.specs.Entry.{IsEntry}
use Rattle.page_table.specs.Table.{in_range}
use Rattle.page_table.specs.inside.Nodes.{word, read_by_walk, IsTree, IsTable, EditsPages}
use Rattle.page_table.specs.Bits.{is_set, IsSet}
use Rattle.page_table.specs.inside.Marks.{place_of, HasMarks, AreMarked, EditsMarked, Keeps}
use Rattle.page_table.proofs.Trees.{walk-suc, walk-none, walk-kept, word_of_node}
use Rattle.page_table.proofs.PageEdits.{walk-high}
use Rattle.page_table.proofs.Searching.{IsPiecewise}
use Rattle.page_table.proofs.Choices.{within_range, past_range, some_true}
use Rattle.page_table.proofs.Marked.{read_place, marked_within, unmarked, HasMarks-same}

module _ (f : ℕ → ℕ) (present : List ℕ) where
  -- whether a word is changed
  abbrev is_edited : ℕ → ℕ → ℕ → Bool
  is_edited first end i = in_range first end i && is_set present i

  -- nothing yet
  pub EditsMarked-none : (first : ℕ) (ws : List ℕ) → EditsMarked f present first first ws ws
  EditsMarked-none first ws = record {
    size = refl;
    words = λ i. (let out : is_edited first first i ≡ false = grind (arith, nat_tests) in rw out refl);
  }

  -- one word
  pub EditsMarked-one : (at value : ℕ) (ws : List ℕ)
      → is_set present at ≡ true → at < length ws → value ≡ f (get_or ws at 0)
      → EditsMarked f present at (at + 1) ws (set ws at value)
  EditsMarked-one at value ws marked within value_is = record {
    size = length-set ws at value;
    words = λ i. elim (cases_eq i at) [
      | inl same ↦
          let inside : is_edited at (at + 1) i ≡ true =
          (let here : is_set present i ≡ true = ap (is_set present) same ∙ marked in grind (arith, nat_tests)) in
          ap (λ n. get_or (set ws at value) n 0) same
          ∙ get_or-set_same ws at value 0 within
          ∙ value_is
          ∙ ap (λ n. f (get_or ws n 0)) (sym same)
          ∙ rw inside refl
      | inr other ↦
          let out : is_edited at (at + 1) i ≡ false = grind (arith, nat_tests) in
          get_or-set_other ws at i value 0 other ∙ rw out refl
    ];
  }

  -- up to a place before which no other word is marked
  pub EditsMarked-all : (first place end : ℕ) (ws vs : List ℕ) → place ≤ end
      → EditsMarked f present first place ws vs → ((i : ℕ) → place ≤ i → i < end → is_set present i ≡ false)
      → EditsMarked f present first end ws vs
  EditsMarked-all first place end ws vs le done none = record {
    size = done.size;
    words = λ i. done.words i ∙ ap (λ t. cond t (f (get_or ws i 0)) (get_or ws i 0)) (same i);
  }
    where
      same : (i : ℕ) → is_edited first place i ≡ is_edited first end i
      same i = elim (cases_lt i place) [
        | inl below ↦ (let alike : in_range first place i ≡ in_range first end i = grind (arith, nat_tests) in
            rw alike refl)
        | inr above ↦
            let out : is_edited first place i ≡ false = grind (arith, nat_tests) in
            elim (cases_lt i end) [
              | inl within ↦ (let unset = none i above within in grind (arith, nat_tests))
              | inr past ↦ grind (arith, nat_tests)
            ]
      ]

  -- one part after the other
  pub EditsMarked-joined : (first mid end : ℕ) (ws vs us : List ℕ) → first ≤ mid → mid ≤ end
      → EditsMarked f present first mid ws vs → EditsMarked f present mid end vs us
      → EditsMarked f present first end ws us
  EditsMarked-joined first mid end ws vs us low high done more = record {
    size = more.size ∙ done.size;
    words = λ i. more.words i ∙ elim (cases_lt i mid) [
      | inl below ↦
          let out : is_edited mid end i ≡ false = grind (arith, nat_tests) in
          let alike : in_range first mid i ≡ in_range first end i = grind (arith, nat_tests) in
          rw out (done.words i ∙ ap (λ t. cond (t && is_set present i) (f (get_or ws i 0)) (get_or ws i 0)) alike)
      | inr above ↦
          let out : is_edited first mid i ≡ false = grind (arith, nat_tests) in
          let old : get_or vs i 0 ≡ get_or ws i 0 = done.words i ∙ rw out refl in
          let alike : in_range mid end i ≡ in_range first end i = grind (arith, nat_tests) in
          rw old (ap (λ t. cond (t && is_set present i) (f (get_or ws i 0)) (get_or ws i 0)) alike)
    ];
  }

  pub EditsMarked-pieces : IsPiecewise present (EditsMarked f present)
  EditsMarked-pieces = record { joined = EditsMarked-joined; unset = EditsMarked-all }

  -- what isn't changed yet
  pub not_yet : (first place : ℕ) (ws vs : List ℕ) → EditsMarked f present first place ws vs → (i : ℕ) → place ≤ i
      → get_or vs i 0 ≡ get_or ws i 0
  not_yet first place ws vs done i above =
      done.words i
      ∙ (let out : is_edited first place i ≡ false = grind (arith, nat_tests) in rw out refl)

-- after the last node in use nothing is marked
pub unused_after : (ws present in_use : List ℕ) → HasMarks ws present in_use → (node end : ℕ)
    → length ws / 512 ≤ end → ((n : ℕ) → node ≤ n → n < end → is_set in_use n ≡ false) → (i : ℕ) → node * 512 ≤ i
    → is_set present i ≡ false
unused_after ws present in_use marks node end most none i low = by_bit (is_set present i) refl
  where
    by_bit : (b : Bool) → is_set present i ≡ b → b ≡ false
    by_bit false is = refl
    by_bit true is = absurd (let on = marks.used i is in let within = marks.nodes (i / 512) on in
        let off = none (i / 512) (omega arith) (omega arith) in cc)

-- the words of the next node are entries still
pub AreMarked-node : (f : ℕ → ℕ) (ws present in_use : List ℕ) → IsTable ws → HasMarks ws present in_use
    → (node used : ℕ) (vs : List ℕ) → EditsMarked f present 0 (node * 512) ws vs → node ≤ used
    → AreMarked vs present (used * 512) ((used + 1) * 512)
AreMarked-node f ws present in_use table marks node used vs done le = λ i low high marked.
    let is = marked_within ws present table marks.marked i marked in (
      omega (arith, is.0, done.size),
      subst IsEntry (sym (not_yet f present 0 (node * 512) ws vs done i (omega arith))) is.1,
    )

-- and so is the next marked word of a node
pub IsEntry-next : (f : ℕ → ℕ) (present : List ℕ) (first place end at : ℕ) (ws vs : List ℕ)
    → AreMarked ws present first end → first ≤ place → EditsMarked f present first place ws vs
    → IsSet present place end at → IsEntry (get_or vs at 0)
IsEntry-next f present first place end at ws vs entries low done found =
    subst IsEntry (sym (not_yet f present first place ws vs done at found.low))
    (entries at (omega (arith, low, found.low)) found.high found.here).1

-- all marked words
module _ (f : ℕ → ℕ) (ws vs present in_use : List ℕ) (end : ℕ) (zeros : f 0 ≡ 0)
    (keeps : (n : ℕ) → IsEntry n → IsEntry (f n)) (table : IsTable ws) (marks : HasMarks ws present in_use)
    (edits : EditsMarked f present 0 end ws vs) (rest : (i : ℕ) → end ≤ i → is_set present i ≡ false) where
  each : (i : ℕ) → get_or vs i 0 ≡ cond (is_set present i) (f (get_or ws i 0)) (get_or ws i 0)
  each i = edits.words i ∙ elim (cases_lt i end) [
    | inl below ↦ (let inside : in_range 0 end i ≡ true = within_range 0 end i (omega arith) below in rw inside refl)
    | inr above ↦ (let none = rest i above in let out : in_range 0 end i ≡ false = past_range 0 end i above in
        rw (out, none) refl)
  ]

  unmarked_word : (i : ℕ) → is_set present i ≡ false → get_or vs i 0 ≡ get_or ws i 0
  unmarked_word i none = each i ∙ rw none refl

  -- a word of a node that isn't a leaf is unmarked
  not_marked : (d c p : ℕ) → d < 3 → p < 512 → 0 < read_by_walk ws d c
      → (b : Bool) → is_set present ((read_by_walk ws d c - 1) * 512 + p) ≡ b
      → b ≡ false
  not_marked d c p less small node false is = refl
  not_marked d c p less small node true is =
      let found = marks.marked.pages _ is in
      let leaf = found.1.leaf in
      let same = found.1.same in
      absurd (let depth =
      (table.tree.apart d c 3 (found.0 / 512) (omega arith) (omega arith) node (omega arith)).0 in omega arith)

  pub walk-marked : (d c : ℕ) → d ≤ 3 → read_by_walk vs d c ≡ read_by_walk ws d c
  walk-marked = walk-kept ws vs (λ d c p less place some.
      word_of_node vs _ p some
      ∙ unmarked_word _ (not_marked d c p less place some _ refl)
      ∙ sym (word_of_node ws _ p some))

  pub lookup-marked : (q : ℕ) → read_by_walk vs 4 q ≡ f (read_by_walk ws 4 q)
  lookup-marked q =
      let k = read_by_walk ws 3 (q / 512) in
      elim (cases_eq k 0) [
        | inl none ↦
            let old : read_by_walk ws 4 q ≡ 0 = walk-none ws 3 q none in
            walk-none vs 3 q (walk-marked 3 (q / 512) (omega arith) ∙ none) ∙ sym (ap f old ∙ zeros)
        | inr node ↦
            let some : 0 < k = omega arith in
            let read = read_place ws q some in
            walk-suc vs 3 q
            ∙ ap (λ k. word vs k (q % 512)) (walk-marked 3 (q / 512) (omega arith))
            ∙ word_of_node vs k (q % 512) some
            ∙ by_mark some read (is_set present (place_of ws q)) refl
      ]
    where
      by_mark : (some : 0 < read_by_walk ws 3 (q / 512)) → read_by_walk ws 4 q ≡ get_or ws (place_of ws q) 0
          → (b : Bool) → is_set present (place_of ws q) ≡ b
          → get_or vs (place_of ws q) 0 ≡ f (read_by_walk ws 4 q)
      by_mark some read true is =
          each _
          ∙ ap (λ t. cond t (f (get_or ws (place_of ws q) 0)) (get_or ws (place_of ws q) 0)) is
          ∙ ap f (sym read)
      by_mark some read false is =
          let none = unmarked ws present marks.marked q some is in
          unmarked_word _ is ∙ sym read ∙ none ∙ sym (ap f none ∙ zeros)

  tree_edited : (used : ℕ) → IsTree ws used → IsTree vs used
  tree_edited used is = record {
    root = is.root;
    room = omega (arith, is.room, edits.size);
    walkable = record { within = λ d c le. omega (arith, walk-marked d c le, is.walkable.within d c le, edits.size) };
    below = λ d c le. omega (arith, walk-marked d c le, is.below d c le);
    apart = λ d c e a le me node same. is.apart d c e a le me (omega (arith, walk-marked d c le))
        (sym (walk-marked d c le) ∙ same ∙ walk-marked e a me);
    unused = λ i past. by_mark i past (is_set present i) refl;
    entries = λ q. subst IsEntry (sym (lookup-marked q)) (keeps _ (is.entries q));
  }
    where
      by_mark : (i : ℕ) → used * 512 ≤ i → (b : Bool) → is_set present i ≡ b → get_or vs i 0 ≡ 0
      by_mark i past true marked =
          let found = marks.marked.pages i marked in
          let leaf = found.1.leaf in
          let same = found.1.same in
          absurd (let below = is.below 3 (found.0 / 512) (omega arith) in omega arith)
      by_mark i past false marked = unmarked_word i marked ∙ is.unused i past

  EditsPages-marked : EditsPages f 0 (2 ^ 36) ws vs
  EditsPages-marked = record {
    table = record {
      whole = omega (arith, table.whole, edits.size);
      tree = subst (λ n. IsTree vs (n / 512)) (sym edits.size) (tree_edited (length ws / 512) table.tree);
    };
    size = edits.size;
    nodes = walk-marked;
    pages = λ q. lookup-marked q ∙ elim (cases_lt q (2 ^ 36)) [
      | inl low ↦ (let inside : in_range 0 (2 ^ 36) q ≡ true = within_range 0 (2 ^ 36) q (omega arith) low in
          rw inside refl)
      | inr high ↦
          let out : in_range 0 (2 ^ 36) q ≡ false = past_range 0 (2 ^ 36) q high in
          let none = walk-high ws q high in
          rw (out, none) zeros
    ];
  }

  HasMarks-marked : Keeps f → HasMarks vs present in_use
  HasMarks-marked some = HasMarks-same ws vs present in_use edits.size walk-marked
      (λ q. ap (λ n. ltb 0 n) (lookup-marked q) ∙ elim (cases_eq (read_by_walk ws 4 q) 0) [
        | inl none ↦ (let same : f (read_by_walk ws 4 q) ≡ 0 = ap f none ∙ zeros in rw (same, none) refl)
        | inr entry ↦
            some_true (f (read_by_walk ws 4 q)) (some (read_by_walk ws 4 q) (table.tree.entries q) (omega arith))
            ∙ sym (some_true (read_by_walk ws 4 q) (omega arith))
      ])
      marks

  pub changed-marked : Keeps f → EditsPages f 0 (2 ^ 36) ws vs × HasMarks vs present in_use
  changed-marked some = (EditsPages-marked, HasMarks-marked some)
