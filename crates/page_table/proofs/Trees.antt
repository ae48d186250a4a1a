-- What a walk reads after words of one node have changed, and after a new node was linked.
use Rattle.std.proofs.Common.{◌≡◌, ◌≢◌, ℕ, zero, suc, ◌+◌, ◌-◌, ◌*◌, ◌/◌, ◌%◌, ◌^◌, ◌<◌, ◌≤◌, Bool, true, false}
use Rattle.std.proofs.Common.{cond, eqb, List, length, get_or, refl, sym, ap, ◌∙◌, subst, inl, inr, arith}
use Rattle.std.proofs.lemmas.Bool.{cases_eq}
use Rattle.std.proofs.lemmas.Bool.Decides.{nat_tests}
use Rattle.page_entry.specs.Entry.{IsEntry}
use Rattle.page_table.specs.Table.{in_range}
use Rattle.page_table.specs.inside.Nodes.{word, read_by_walk, IsTree, IsPastGap}

-- one level deeper
pub walk-suc : (ws : List ℕ) (d b : ℕ) → read_by_walk ws (suc d) b ≡ word ws (read_by_walk ws d (b / 512)) (b % 512)
unfolding read_by_walk
walk-suc ws d b = refl

pub walk-zero : (ws : List ℕ) (b : ℕ) → read_by_walk ws 0 b ≡ cond (eqb b 0) 1 0
unfolding read_by_walk
walk-zero ws b = refl

-- the word of a node, and of no node
pub word_of_node : (ws : List ℕ) (k p : ℕ) → 0 < k → word ws k p ≡ get_or ws ((k - 1) * 512 + p) 0
word_of_node ws k p some = let not_zero : eqb k 0 ≡ false = grind (arith, nat_tests) in rw not_zero refl

pub word_of_none : (ws : List ℕ) (k p : ℕ) → k ≡ 0 → word ws k p ≡ 0
word_of_none ws k p none = rw none refl

-- the same, of a depth that isn't 0
pub walk_deeper : (ws : List ℕ) (d b : ℕ) → 0 < d
    → read_by_walk ws d b ≡ word ws (read_by_walk ws (d - 1) (b / 512)) (b % 512)
walk_deeper ws zero b some = absurd (omega arith)
walk_deeper ws (suc d) b some =
    walk-suc ws d b
    ∙ ap (λ n. word ws (read_by_walk ws n (b / 512)) (b % 512)) {x = d} {y = suc d - 1} (omega arith)

-- where a block has no node, no block within it has one
pub walk-none : (ws : List ℕ) (d b : ℕ) → read_by_walk ws d (b / 512) ≡ 0 → read_by_walk ws (suc d) b ≡ 0
walk-none ws d b none = walk-suc ws d b ∙ word_of_none ws _ _ none

-- words that read alike give walks that read alike
pub walk-alike : (ws vs : List ℕ) → ((i : ℕ) → get_or vs i 0 ≡ get_or ws i 0) → (d b : ℕ)
    → read_by_walk vs d b ≡ read_by_walk ws d b
walk-alike ws vs same zero b = walk-zero vs b ∙ sym (walk-zero ws b)
walk-alike ws vs same (suc d) b =
    walk-suc vs d b ∙ ap (λ k. word vs k (b % 512)) (walk-alike ws vs same d (b / 512))
    ∙ ap (λ x. cond (eqb (read_by_walk ws d (b / 512)) 0) 0 x)
    (same ((read_by_walk ws d (b / 512) - 1) * 512 + b % 512))
    ∙ sym (walk-suc ws d b)

-- where the words of nodes above the leaves stay, the nodes do
pub walk-kept : (ws vs : List ℕ) → ((d c p : ℕ) → d < 3 → p < 512 → 0 < read_by_walk ws d c
    → word vs (read_by_walk ws d c) p ≡ word ws (read_by_walk ws d c) p)
    → (d c : ℕ) → d ≤ 3 → read_by_walk vs d c ≡ read_by_walk ws d c
walk-kept ws vs kept zero c le = walk-zero vs c ∙ sym (walk-zero ws c)
walk-kept ws vs kept (suc d) c le =
    let k = read_by_walk ws d (c / 512) in
    walk-suc vs d c ∙ ap (λ k. word vs k (c % 512)) (walk-kept ws vs kept d (c / 512) (omega arith))
    ∙ elim (cases_eq k 0) [
      | inl none ↦ word_of_none vs k _ none ∙ sym (word_of_none ws k _ none)
      | inr node ↦ kept d (c / 512) (c % 512) (omega arith) (omega arith) (omega arith)
    ]
    ∙ sym (walk-suc ws d c)

-- places of different nodes differ
apart_places : (k n p lo hi : ℕ) → 0 < k → 0 < n → p < 512 → hi ≤ 512 → k ≢ n
    → in_range ((n - 1) * 512 + lo) ((n - 1) * 512 + hi) ((k - 1) * 512 + p) ≡ false
apart_places k n p lo hi some node place high other = grind (arith, nat_tests)

same_places : (k n b lo hi q : ℕ) → k ≡ n → q / 512 ≡ b
    → in_range ((n - 1) * 512 + lo) ((n - 1) * 512 + hi) ((k - 1) * 512 + q % 512)
    ≡ in_range (b * 512 + lo) (b * 512 + hi) q
same_places k n b lo hi q same block =
    let whole : q ≡ b * 512 + q % 512 = omega arith in
    ap (λ m. in_range ((n - 1) * 512 + lo) ((n - 1) * 512 + hi) ((m - 1) * 512 + q % 512)) same
    ∙ between_places ((n - 1) * 512) (b * 512) lo hi (q % 512) ∙ ap (in_range (b * 512 + lo) (b * 512 + hi)) (sym whole)
  where
    between_places : (a b lo hi p : ℕ) → in_range (a + lo) (a + hi) (a + p) ≡ in_range (b + lo) (b + hi) (b + p)
    between_places a b lo hi p = grind (arith, nat_tests)

other_block : (b lo hi q : ℕ) → hi ≤ 512 → q / 512 ≢ b → in_range (b * 512 + lo) (b * 512 + hi) q ≡ false
other_block b lo hi q high other = grind (arith, nat_tests)

past_node : (n used lo hi i : ℕ) → n ≤ used → 0 < n → hi ≤ 512 → used * 512 ≤ i
    → in_range ((n - 1) * 512 + lo) ((n - 1) * 512 + hi) i ≡ false
past_node n used lo hi i below some high past = grind (arith, nat_tests)

module _ (ws : List ℕ) (used : ℕ) (is : IsTree ws used) where
  module _ (b : ℕ) (some : 0 < read_by_walk ws 3 b) (lo hi : ℕ)
      (high : hi ≤ 512) (f : ℕ → ℕ) (vs : List ℕ) (each : (i : ℕ)
      → get_or vs i 0 ≡ cond (in_range ((read_by_walk ws 3 b - 1) * 512 + lo) ((read_by_walk ws 3 b - 1) * 512 + hi) i)
      (f (get_or ws i 0)) (get_or ws i 0)) where
    outside : (k p : ℕ) → 0 < k → p < 512 → k ≢ read_by_walk ws 3 b → word vs k p ≡ word ws k p
    outside k p node place other =
        word_of_node vs k p node
        ∙ each _
        ∙ ap (λ t. cond t (f (get_or ws ((k - 1) * 512 + p) 0)) (get_or ws ((k - 1) * 512 + p) 0))
        (apart_places k (read_by_walk ws 3 b) p lo hi node some place high other)
        ∙ sym (word_of_node ws k p node)

    -- the nodes stay
    pub walk-edited : (d c : ℕ) → d ≤ 3 → read_by_walk vs d c ≡ read_by_walk ws d c
    walk-edited = walk-kept ws vs (λ d c p less place node. outside (read_by_walk ws d c) p node place
        (λ same. let e = (is.apart d c 3 b (omega arith) (omega arith) node same).0 in omega arith))

    -- and each entry of the places changes
    pub lookup-edited : (q : ℕ)
        → read_by_walk vs 4 q
        ≡ cond (in_range (b * 512 + lo) (b * 512 + hi) q) (f (read_by_walk ws 4 q)) (read_by_walk ws 4 q)
    lookup-edited q =
        let k = read_by_walk ws 3 (q / 512) in
        walk-suc vs 3 q ∙ ap (λ k. word vs k (q % 512)) (walk-edited 3 (q / 512) (omega arith))
        ∙ elim (cases_eq (q / 512) b) [
          | inl same ↦
              let k_is : k ≡ read_by_walk ws 3 b = ap (read_by_walk ws 3) same in
              let node : 0 < k = omega arith in
              let place : (k - 1) * 512 + q % 512 ≡ (read_by_walk ws 3 b - 1) * 512 + q % 512 =
              ap (λ n. (n - 1) * 512 + q % 512) k_is in
              let here : word ws k (q % 512) ≡ read_by_walk ws 4 q = sym (walk-suc ws 3 q) in
              word_of_node vs k _ node ∙ each _
              ∙ ap (λ x. cond (in_range ((read_by_walk ws 3 b - 1) * 512 + lo) ((read_by_walk ws 3 b - 1) * 512 + hi)
              ((k - 1) * 512 + q % 512)) (f x) x) (sym (word_of_node ws k (q % 512) node) ∙ here)
              ∙ ap (λ t. cond t (f (read_by_walk ws 4 q)) (read_by_walk ws 4 q))
              (same_places k (read_by_walk ws 3 b) b lo hi q k_is same)
          | inr other ↦
              let missed : in_range (b * 512 + lo) (b * 512 + hi) q ≡ false = other_block b lo hi q high other in
              elim (cases_eq k 0) [
                | inl none ↦ word_of_none vs k _ none ∙ sym (word_of_none ws k _ none)
                | inr node ↦ outside k (q % 512) (omega arith) (omega arith)
                    (λ same. other (is.apart 3 (q / 512) 3 b (omega arith) (omega arith) (omega arith) same).1)
              ]
              ∙ sym (walk-suc ws 3 q) ∙ sym (ap (λ t. cond t (f (read_by_walk ws 4 q)) (read_by_walk ws 4 q)) missed)
        ]

    -- and it is the same tree
    pub IsTree-edited : ((n : ℕ) → IsEntry n → IsEntry (f n)) → length vs ≡ length ws → IsTree vs used
    IsTree-edited keeps size = record {
      root = is.root;
      room = omega (arith, is.room);
      walkable = record { within = λ d c le. omega (arith, walk-edited d c le, is.walkable.within d c le) };
      below = λ d c le. omega (arith, walk-edited d c le, is.below d c le);
      apart = λ d c e a le me node same. is.apart d c e a le me (omega (arith, walk-edited d c le))
          (sym (walk-edited d c le) ∙ same ∙ walk-edited e a me);
      unused = λ i past. each i ∙ ap (λ t. cond t (f (get_or ws i 0)) (get_or ws i 0))
          (past_node (read_by_walk ws 3 b) used lo hi i (is.below 3 b (omega arith)) some high past) ∙ is.unused i past;
      entries = λ q. subst IsEntry (sym (lookup-edited q)) (chosen (in_range (b * 512 + lo) (b * 512 + hi) q)
          (read_by_walk ws 4 q) (is.entries q) (keeps _ (is.entries q)));
    }
      where
        chosen : (t : Bool) (n : ℕ) → IsEntry n → IsEntry (f n) → IsEntry (cond t (f n) n)
        chosen true n old new = new
        chosen false n old new = old

-- a block within another one, two and three levels up
pub walk-up : (ws : List ℕ) (q : ℕ) → read_by_walk ws 2 (q / 2 ^ 18) ≡ 0 → read_by_walk ws 3 (q / 512) ≡ 0
walk-up ws q none =
    walk-none ws 2 (q / 512) (ap (read_by_walk ws 2) {x = q / 512 / 512} {y = q / 2 ^ 18} (omega arith) ∙ none)

pub walk-up-two : (ws : List ℕ) (q : ℕ) → read_by_walk ws 1 (q / 2 ^ 27) ≡ 0 → read_by_walk ws 3 (q / 512) ≡ 0
walk-up-two ws q none = walk-up ws q
    (walk-none ws 1 (q / 2 ^ 18) (ap (read_by_walk ws 1) {x = q / 2 ^ 18 / 512} {y = q / 2 ^ 27} (omega arith) ∙ none))

-- the end of a missing block of each size
pub past_root_block : (ws : List ℕ) (page : ℕ) → read_by_walk ws 1 (page / 2 ^ 27) ≡ 0
    → IsPastGap ws page ((page / 2 ^ 27 + 1) * 2 ^ 27)
past_root_block ws page none = record {
  low = omega arith;
  leaf = λ same. absurd (omega arith);
  gap = λ q low high.
      walk-up-two ws q (ap (read_by_walk ws 1) {x = q / 2 ^ 27} {y = page / 2 ^ 27} (omega arith) ∙ none);
}

pub past_middle_block : (ws : List ℕ) (page : ℕ) → read_by_walk ws 2 (page / 2 ^ 18) ≡ 0
    → IsPastGap ws page ((page / 2 ^ 18 + 1) * 2 ^ 18)
past_middle_block ws page none = record {
  low = omega arith;
  leaf = λ same. absurd (omega arith);
  gap = λ q low high. walk-up ws q (ap (read_by_walk ws 2) {x = q / 2 ^ 18} {y = page / 2 ^ 18} (omega arith) ∙ none);
}

-- the root
pub walk-root : (ws : List ℕ) (b : ℕ) → b ≡ 0 → read_by_walk ws 0 b ≡ 1
walk-root ws b same = walk-zero ws b ∙ rw same refl
