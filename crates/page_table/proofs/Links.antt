-- What a walk reads after a node was linked, and how many nodes are missing.
use Rattle.std.proofs.Common.{◌≡◌, ◌≢◌, ℕ, zero, suc, ◌+◌, ◌-◌, ◌*◌, ◌/◌, ◌%◌, ◌<◌, ◌≤◌, Bool, true, false, cond}
use Rattle.std.proofs.Common.{◌&&◌, eqb, List, length, get_or, set, refl, sym, ap, ◌∙◌, subst, inl, inr, arith}
use Rattle.std.proofs.lemmas.Bool.{cases_eq, cases_lt}
use Rattle.std.proofs.lemmas.Bool.Decides.{nat_tests}
use Rattle.std.proofs.lemmas.List.{length-set, get_or-set_same, get_or-set_other}
use Rattle.page_entry.specs.Entry.{IsEntry}
use Rattle.page_table.specs.inside.Nodes.{word, read_by_walk, IsTree, missing, LinksBlocks}
use Rattle.page_table.proofs.Trees.{walk-suc, walk-zero, walk-none, word_of_node, word_of_none}

module _ (ws : List ℕ) (used : ℕ) (is : IsTree ws used) (depth d b : ℕ) (deeper : depth ≡ suc d)
    (least : depth ≤ 3) (some : 0 < read_by_walk ws d (b / 512)) (none : read_by_walk ws depth b ≡ 0)
    (room : (used + 1) * 512 ≤ length ws) where
  place_below : (read_by_walk ws d (b / 512) - 1) * 512 + b % 512 < used * 512
  place_below = omega (arith, is.below d (b / 512) (omega arith))

  read_at : (i : ℕ) → i ≡ (read_by_walk ws d (b / 512) - 1) * 512 + b % 512
      → get_or (set ws ((read_by_walk ws d (b / 512) - 1) * 512 + b % 512) (used + 1)) i 0 ≡ used + 1
  read_at i same =
      ap (λ n. get_or (set ws ((read_by_walk ws d (b / 512) - 1) * 512 + b % 512) (used + 1)) n 0) same
      ∙ get_or-set_same ws ((read_by_walk ws d (b / 512) - 1) * 512 + b % 512) (used + 1) 0 (omega (arith, place_below))

  read_other : (i : ℕ) → i ≢ (read_by_walk ws d (b / 512) - 1) * 512 + b % 512
      → get_or (set ws ((read_by_walk ws d (b / 512) - 1) * 512 + b % 512) (used + 1)) i 0 ≡ get_or ws i 0
  read_other i other = get_or-set_other ws ((read_by_walk ws d (b / 512) - 1) * 512 + b % 512) i (used + 1) 0 other

  -- whether this is the block that was linked
  abbrev is_linked : ℕ → ℕ → Bool
  is_linked e c = eqb e depth && eqb c b

  linked_false : (e c : ℕ) → e ≢ depth → is_linked e c ≡ false
  linked_false e c other = grind (arith, nat_tests)

  linked_other : (e c : ℕ) → c ≢ b → is_linked e c ≡ false
  linked_other e c other = grind (arith, nat_tests)

  linked_true : (e c : ℕ) → e ≡ depth → c ≡ b → is_linked e c ≡ true
  linked_true e c same_depth same_block = grind (arith, nat_tests)

  new_node : (p : ℕ) → word (set ws ((read_by_walk ws d (b / 512) - 1) * 512 + b % 512) (used + 1)) (used + 1) p ≡ 0
  new_node p =
      word_of_node _ (used + 1) p (omega arith)
      ∙ read_other ((used + 1 - 1) * 512 + p) (λ same. omega (arith, place_below))
      ∙ is.unused ((used + 1 - 1) * 512 + p) (omega arith)

  pub walk-linked : (e c : ℕ) → e ≤ 4
      → read_by_walk (set ws ((read_by_walk ws d (b / 512) - 1) * 512 + b % 512) (used + 1)) e c
      ≡ cond (is_linked e c) (used + 1) (read_by_walk ws e c)
  walk-linked zero c le =
      walk-zero _ c
      ∙ sym (walk-zero ws c)
      ∙ (let other : is_linked 0 c ≡ false = linked_false 0 c (λ same. omega arith) in rw other refl)
  walk-linked (suc e) c le =
      let k = read_by_walk ws e (c / 512) in
      walk-suc _ e c ∙ elim (cases_eq e depth) [
        | inl at ↦ elim (cases_eq (c / 512) b) [
          | inl within ↦
              let here : is_linked e (c / 512) ≡ true = linked_true e (c / 512) at within in
              let other : is_linked (suc e) c ≡ false = linked_false (suc e) c (λ same. omega arith) in
              let empty : read_by_walk ws (suc e) c ≡ 0 =
              walk-none ws e c (ap (λ n. read_by_walk ws n (c / 512)) at ∙ ap (read_by_walk ws depth) within ∙ none) in
              ap (λ n. word (set ws ((read_by_walk ws d (b / 512) - 1) * 512 + b % 512) (used + 1)) n (c % 512))
              (walk-linked e (c / 512) (omega arith) ∙ ap (λ t. cond t (used + 1) k) here)
              ∙ new_node (c % 512)
              ∙ sym (ap (λ t. cond t (used + 1) (read_by_walk ws (suc e) c)) other ∙ empty)
          | inr outside ↦ old e c (omega arith)
              (walk-linked e (c / 512) (omega arith) ∙ ap (λ t. cond t (used + 1) k) (linked_other e (c / 512) outside))
        ]
        | inr differs ↦ old e c (omega arith)
            (walk-linked e (c / 512) (omega arith) ∙ ap (λ t. cond t (used + 1) k) (linked_false e (c / 512) differs))
      ]
    where
      -- the parent's number is what it was
      old : (e c : ℕ) → e ≤ 3
          → read_by_walk (set ws ((read_by_walk ws d (b / 512) - 1) * 512 + b % 512) (used + 1)) e (c / 512)
          ≡ read_by_walk ws e (c / 512)
          → word (set ws ((read_by_walk ws d (b / 512) - 1) * 512 + b % 512) (used + 1))
          (read_by_walk (set ws ((read_by_walk ws d (b / 512) - 1) * 512 + b % 512) (used + 1)) e (c / 512)) (c % 512)
          ≡ cond (is_linked (suc e) c) (used + 1) (read_by_walk ws (suc e) c)
      old e c low same =
          let k = read_by_walk ws e (c / 512) in
          ap (λ n. word (set ws ((read_by_walk ws d (b / 512) - 1) * 512 + b % 512) (used + 1)) n (c % 512)) same
          ∙ elim (cases_eq k 0) [
            | inl no_node ↦
                let other : is_linked (suc e) c ≡ false = elim (cases_eq c b) [
                  | inl this ↦ linked_false (suc e) c
                      (λ same_depth. let parent : read_by_walk ws e (c / 512) ≡ read_by_walk ws d (b / 512) =
                      ap (λ n. read_by_walk ws n (c / 512)) {x = e} {y = d} (omega arith)
                      ∙ ap (λ n. read_by_walk ws d (n / 512)) this in
                      omega arith)
                  | inr another ↦ linked_other (suc e) c another
                ] in
                word_of_none _ k (c % 512) no_node
                ∙ sym (ap (λ t. cond t (used + 1) (read_by_walk ws (suc e) c)) other ∙ walk-none ws e c no_node)
            | inr node ↦
                word_of_node _ k (c % 512) (omega arith)
                ∙ elim (cases_eq ((k - 1) * 512 + c % 512) ((read_by_walk ws d (b / 512) - 1) * 512 + b % 512)) [
                  | inl place ↦
                      let both = is.apart e (c / 512) d (b / 512) low (omega arith) (omega arith) (omega arith) in
                      let this : is_linked (suc e) c ≡ true =
                      (let same_depth = both.0 in let same_block = both.1 in
                      linked_true (suc e) c (omega arith) (omega arith)) in
                      read_at _ place ∙ sym (ap (λ t. cond t (used + 1) (read_by_walk ws (suc e) c)) this)
                  | inr another ↦
                      let other : is_linked (suc e) c ≡ false = elim (cases_eq c b) [
                        | inl this ↦ linked_false (suc e) c
                            (λ same_depth. another (let parent : k ≡ read_by_walk ws d (b / 512) =
                            ap (λ n. read_by_walk ws n (c / 512)) {x = e} {y = d} (omega arith)
                            ∙ ap (λ n. read_by_walk ws d (n / 512)) this in
                            let digit : c % 512 ≡ b % 512 = ap (λ n. n % 512) this in omega arith))
                        | inr elsewhere ↦ linked_other (suc e) c elsewhere
                      ] in
                      read_other _ another
                      ∙ sym (word_of_node ws k (c % 512) (omega arith))
                      ∙ sym (walk-suc ws e c)
                      ∙ sym (ap (λ t. cond t (used + 1) (read_by_walk ws (suc e) c)) other)
                ]
          ]

  size : length (set ws ((read_by_walk ws d (b / 512) - 1) * 512 + b % 512) (used + 1)) ≡ length ws
  size = simp length-set

  at_most : (e c : ℕ) → e ≤ 3
      → read_by_walk (set ws ((read_by_walk ws d (b / 512) - 1) * 512 + b % 512) (used + 1)) e c ≤ used + 1
  at_most e c le =
      subst (λ n. n ≤ used + 1) (sym (walk-linked e c (omega arith))) (by_block (is_linked e c) (is.below e c le))
    where
      by_block : (t : Bool) → read_by_walk ws e c ≤ used → cond t (used + 1) (read_by_walk ws e c) ≤ used + 1
      by_block true below = omega arith
      by_block false below = omega arith

  linked_parts : (e c : ℕ) → is_linked e c ≡ true → (e ≡ depth) × (c ≡ b)
  linked_parts e c this = (grind (arith, nat_tests), grind (arith, nat_tests))

  apart_still : (e c f a : ℕ) → e ≤ 3 → f ≤ 3
      → 0 < read_by_walk (set ws ((read_by_walk ws d (b / 512) - 1) * 512 + b % 512) (used + 1)) e c
      → read_by_walk (set ws ((read_by_walk ws d (b / 512) - 1) * 512 + b % 512) (used + 1)) e c
      ≡ read_by_walk (set ws ((read_by_walk ws d (b / 512) - 1) * 512 + b % 512) (used + 1)) f a
      → (e ≡ f) × (c ≡ a)
  apart_still e c f a low lower node same =
      by_blocks (is_linked e c) (is_linked f a) refl refl (subst (λ n. 0 < n) (walk-linked e c (omega arith)) node)
      (sym (walk-linked e c (omega arith)) ∙ same ∙ walk-linked f a (omega arith))
    where
      by_blocks : (t u : Bool) → is_linked e c ≡ t → is_linked f a ≡ u → 0 < cond t (used + 1) (read_by_walk ws e c)
          → cond t (used + 1) (read_by_walk ws e c) ≡ cond u (used + 1) (read_by_walk ws f a)
          → (e ≡ f) × (c ≡ a)
      by_blocks true true first second node same =
          let one = linked_parts e c first in
          let two = linked_parts f a second in
          (one.0 ∙ sym two.0, one.1 ∙ sym two.1)
      by_blocks true false first second node same = absurd (let below = is.below f a lower in omega arith)
      by_blocks false true first second node same = absurd (let below = is.below e c low in omega arith)
      by_blocks false false first second node same = is.apart e c f a low lower node same

  -- one node linked
  pub LinksBlocks-one : LinksBlocks depth b (b + 1) used (used + 1) ws
      (set ws ((read_by_walk ws d (b / 512) - 1) * 512 + b % 512) (used + 1))
  LinksBlocks-one = record {
    tree = record {
      root = omega arith;
      room = omega (arith, size);
      walkable = record { within = λ e c le. let most = at_most e c le in omega (arith, size) };
      below = at_most;
      apart = apart_still;
      unused = λ i past. read_other i (λ same. omega (arith, place_below)) ∙ is.unused i (omega arith);
      entries = λ q. subst IsEntry (sym (walk-linked 4 q (omega arith)
          ∙ ap (λ t. cond t (used + 1) (read_by_walk ws 4 q)) (linked_false 4 q (λ same. omega arith)))) (is.entries q);
    };
    size = size;
    count = ap (λ n. used + n) (sym (ap (missing ws depth b) {x = b + 1 - b} {y = 1} (omega arith) ∙ one_missing));
    linked = λ c low high. let this : is_linked depth c ≡ true = linked_true depth c refl (omega arith) in
        subst (λ n. 0 < n)
        (sym (walk-linked depth c (omega arith) ∙ ap (λ t. cond t (used + 1) (read_by_walk ws depth c)) this))
        (omega arith);
    same = λ e c le kept. walk-linked e c le ∙ not_linked e c kept;
  }
    where
      one_missing : missing ws depth b 1 ≡ 1
      one_missing = rw none refl

      not_linked : (e c : ℕ) → (e ≡ depth → b ≤ c → c < b + 1 → 0 < read_by_walk ws e c)
          → cond (is_linked e c) (used + 1) (read_by_walk ws e c) ≡ read_by_walk ws e c
      not_linked e c kept = by_block (is_linked e c) refl
        where
          by_block : (t : Bool) → is_linked e c ≡ t → cond t (used + 1) (read_by_walk ws e c) ≡ read_by_walk ws e c
          by_block false other = refl
          by_block true this =
              let parts = linked_parts e c this in
              let node : 0 < read_by_walk ws e c =
              kept parts.0 (let same = parts.1 in omega arith) (let same = parts.1 in omega arith) in
              let empty : read_by_walk ws e c ≡ 0 =
              ap (λ n. read_by_walk ws n c) parts.0
              ∙ ap (read_by_walk ws depth) parts.1
              ∙ none in
              absurd (omega arith)

-- blocks in two parts
pub missing-split : (ws : List ℕ) (depth first m n : ℕ)
    → missing ws depth first (m + n) ≡ missing ws depth first m + missing ws depth (first + m) n
missing-split ws depth first zero n =
    ap (missing ws depth first) {x = 0 + n} {y = n} (omega arith)
    ∙ ap (λ f. missing ws depth f n) {x = first} {y = first + 0} (omega arith)
    ∙ (omega arith)
missing-split ws depth first (suc m) n =
    ap (missing ws depth first) {x = suc m + n} {y = suc (m + n)} (omega arith)
    ∙ ap (λ k. cond (eqb (read_by_walk ws depth first) 0) 1 0 + k)
    (missing-split ws depth (first + 1) m n ∙ ap (λ f. missing ws depth (first + 1) m + missing ws depth f n)
    {x = first + 1 + m} {y = first + suc m} (omega arith))
    ∙ (omega arith)

-- at most as many as there are blocks
pub missing-most : (ws : List ℕ) (depth first n : ℕ) → missing ws depth first n ≤ n
missing-most ws depth first zero = omega arith
missing-most ws depth first (suc n) =
    let rest = missing-most ws depth (first + 1) n in
    by_block (eqb (read_by_walk ws depth first) 0) rest
  where
    by_block : (t : Bool) → missing ws depth (first + 1) n ≤ n → cond t 1 0 + missing ws depth (first + 1) n ≤ suc n
    by_block true rest = omega arith
    by_block false rest = omega arith

-- walks that read alike miss alike
pub missing-alike : (ws vs : List ℕ) (depth first n : ℕ)
    → ((b : ℕ) → first ≤ b → b < first + n → read_by_walk vs depth b ≡ read_by_walk ws depth b)
    → missing vs depth first n ≡ missing ws depth first n
missing-alike ws vs depth first zero same = refl
missing-alike ws vs depth first (suc n) same =
    let here = same first (omega arith) (omega arith) in
    let rest = missing-alike ws vs depth (first + 1) n (λ b low high. same b (omega arith) (omega arith)) in
    rw (here, rest) refl

-- none is missing where each block has a node
pub missing-none : (ws : List ℕ) (depth first n : ℕ)
    → ((b : ℕ) → first ≤ b → b < first + n → 0 < read_by_walk ws depth b)
    → missing ws depth first n ≡ 0
missing-none ws depth first zero some = refl
missing-none ws depth first (suc n) some =
    let here : eqb (read_by_walk ws depth first) 0 ≡ false =
    (let node = some first (omega arith) (omega arith) in grind (arith, nat_tests)) in
    rw here (ap (λ k. 0 + k) (missing-none ws depth (first + 1) n (λ b low high. some b (omega arith) (omega arith))))

-- one more block
pub missing-more : (ws : List ℕ) (depth first block : ℕ) → first ≤ block
    → missing ws depth first (block + 1 - first)
    ≡ missing ws depth first (block - first) + cond (eqb (read_by_walk ws depth block) 0) 1 0
missing-more ws depth first block le =
    ap (missing ws depth first) {x = block + 1 - first} {y = block - first + 1} (omega arith)
    ∙ missing-split ws depth first (block - first) 1
    ∙ ap (λ f. missing ws depth first (block - first) + missing ws depth f 1) {x = first + (block - first)}
    {y = block} (omega arith)
    ∙ (omega arith)

-- where the next block has none, there is room for it
pub missing-room : (ws : List ℕ) (depth first block end : ℕ)
    → first ≤ block → block < end → read_by_walk ws depth block ≡ 0
    → missing ws depth first (block - first) + 1 ≤ missing ws depth first (end - first)
missing-room ws depth first block end le less none =
    let more = missing-more ws depth first block le in
    let one : ◌≡◌ {A = ℕ} (cond (eqb (read_by_walk ws depth block) 0) 1 0) 1 = rw none refl in
    let rest : missing ws depth first (end - first)
    ≡ missing ws depth first (block + 1 - first) + missing ws depth (first + (block + 1 - first)) (end - (block + 1)) =
    ap (missing ws depth first) {x = end - first} {y = block + 1 - first + (end - (block + 1))} (omega arith)
    ∙ missing-split ws depth first (block + 1 - first) (end - (block + 1)) in
    omega arith

-- no block yet
pub LinksBlocks-none : (ws : List ℕ) (used : ℕ) (depth first : ℕ) → IsTree ws used
    → LinksBlocks depth first first used used ws ws
LinksBlocks-none ws used depth first is = record {
  tree = is;
  size = refl;
  count = (let nothing : missing ws depth first (first - first) ≡ 0 =
      ap (missing ws depth first) {x = first - first} {y = 0} (omega arith) in omega arith);
  linked = λ b low high. absurd (omega arith);
  same = λ d b le kept. refl;
}

-- a block that has a node
pub LinksBlocks-kept : (depth first block used made : ℕ) (ws vs : List ℕ) → first ≤ block
    → depth ≤ 3 → LinksBlocks depth first block used made ws vs → 0 < read_by_walk vs depth block
    → LinksBlocks depth first (block + 1) used made ws vs
LinksBlocks-kept depth first block used made ws vs le low links node = record {
  tree = links.tree;
  size = links.size;
  count = links.count
      ∙ ap (λ n. used + n) (sym (missing-more ws depth first block le
      ∙ ap (λ t. missing ws depth first (block - first) + cond t 1 0) has ∙ (omega arith)));
  linked = λ b from upto. elim (cases_lt b block) [
    | inl before ↦ links.linked b from before
    | inr at ↦ subst (λ n. 0 < read_by_walk vs depth n) {x = block} {y = b} (omega arith) node
  ];
  same = λ d b small kept. links.same d b small (λ at from upto. kept at from (omega arith));
}
  where
    old : read_by_walk vs depth block ≡ read_by_walk ws depth block
    old = links.same depth block (omega arith) (λ at from upto. absurd (omega arith))

    has : eqb (read_by_walk ws depth block) 0 ≡ false
    has = (let same = old in grind (arith, nat_tests))

-- a block that was linked
pub LinksBlocks-more : (depth first block used made : ℕ) (ws vs us : List ℕ)
    → first ≤ block → depth ≤ 3 → LinksBlocks depth first block used made ws vs
    → read_by_walk vs depth block ≡ 0 → LinksBlocks depth block (block + 1) made (made + 1) vs us
    → LinksBlocks depth first (block + 1) used (made + 1) ws us
LinksBlocks-more depth first block used made ws vs us le low links none one = record {
  tree = one.tree;
  size = one.size ∙ links.size;
  count = ap (λ n. n + 1) links.count
      ∙ sym (ap (λ n. used + n)
      (missing-more ws depth first block le ∙ ap (λ t. missing ws depth first (block - first) + cond t 1 0) has)
      ∙ (omega arith));
  linked = λ b from upto. elim (cases_lt b block) [
    | inl before ↦ subst (λ n. 0 < n) (sym (one.same depth b (omega arith) (λ at high more. absurd (omega arith))))
        (links.linked b from before)
    | inr at ↦ one.linked b (omega arith) (omega arith)
  ];
  same = λ d b small kept. one.same d b small (λ at high more. subst (λ n. 0 < n)
      (sym (links.same d b small (λ at' from upto. kept at' from (omega arith)))) (kept at (omega arith) (omega arith)))
      ∙ links.same d b small (λ at from upto. kept at from (omega arith));
}
  where
    old : read_by_walk vs depth block ≡ read_by_walk ws depth block
    old = links.same depth block (omega arith) (λ at from upto. absurd (omega arith))

    has : eqb (read_by_walk ws depth block) 0 ≡ true
    has = rw (sym old ∙ none) refl
