-- What the links of all levels of a range do together.
use Rattle.std.proofs.Common.{◌≡◌, ℕ, ◌+◌, ◌-◌, ◌*◌, ◌/◌, ◌^◌, ◌<◌, ◌≤◌, List, length, sym, ◌∙◌, subst, arith}
use Rattle.page_table.specs.inside.Nodes.{read_by_walk, IsTree, missing, needed, LinksBlocks, GrowsPages}
use Rattle.page_table.proofs.Links.{missing-alike}

module _ (start end used tops middles made : ℕ) (ws ws1 ws2 ws3 : List ℕ) (pages : start < end)
    (room : length ws ≡ (used + needed ws start end) * 512)
    (one : LinksBlocks 1 (start / 2 ^ 27) ((end - 1) / 2 ^ 27 + 1) used tops ws ws1) where
  first_missing : missing ws1 2 (start / 2 ^ 18) ((end - 1) / 2 ^ 18 + 1 - start / 2 ^ 18)
      ≡ missing ws 2 (start / 2 ^ 18) ((end - 1) / 2 ^ 18 + 1 - start / 2 ^ 18)
  first_missing = missing-alike ws ws1 2 _ _ (λ b low high. one.same 2 b (omega arith) (λ at. absurd (omega arith)))

  pub middle_room : (tops + missing ws1 2 (start / 2 ^ 18) ((end - 1) / 2 ^ 18 + 1 - start / 2 ^ 18)) * 512 ≤ length ws1
  middle_room = omega (arith, first_missing, one.count, one.size)

  pub middle_parents : (b : ℕ) → start / 2 ^ 18 ≤ b → b < (end - 1) / 2 ^ 18 + 1 → 0 < read_by_walk ws1 1 (b / 512)
  middle_parents b low high = one.linked (b / 512) (omega arith) (omega arith)

  module _ (two : LinksBlocks 2 (start / 2 ^ 18) ((end - 1) / 2 ^ 18 + 1) tops middles ws1 ws2) where
    second_missing : missing ws2 3 (start / 512) ((end - 1) / 512 + 1 - start / 512)
        ≡ missing ws 3 (start / 512) ((end - 1) / 512 + 1 - start / 512)
    second_missing = missing-alike ws ws2 3 _ _ (λ b low high. two.same 3 b (omega arith) (λ at. absurd (omega arith))
        ∙ one.same 3 b (omega arith) (λ at. absurd (omega arith)))

    pub leaf_room : (middles + missing ws2 3 (start / 512) ((end - 1) / 512 + 1 - start / 512)) * 512 ≤ length ws2
    leaf_room = omega (arith, first_missing, second_missing, one.count, one.size, two.count, two.size)

    pub leaf_parents : (b : ℕ) → start / 512 ≤ b → b < (end - 1) / 512 + 1 → 0 < read_by_walk ws2 2 (b / 512)
    leaf_parents b low high = two.linked (b / 512) (omega arith) (omega arith)

    module _ (three : LinksBlocks 3 (start / 512) ((end - 1) / 512 + 1) middles made ws2 ws3) where
      same_leaf : (b : ℕ) → (start / 512 ≤ b → b < (end - 1) / 512 + 1 → 0 < read_by_walk ws 3 b)
          → read_by_walk ws3 3 b ≡ read_by_walk ws 3 b
      same_leaf b kept =
          let below : read_by_walk ws2 3 b ≡ read_by_walk ws 3 b =
          two.same 3 b (omega arith) (λ at. absurd (omega arith))
          ∙ one.same 3 b (omega arith) (λ at. absurd (omega arith)) in
          three.same 3 b (omega arith) (λ at low high. subst (λ n. 0 < n) (sym below) (kept low high)) ∙ below

      whole : length ws3 ≡ made * 512
      whole = omega (
        arith,
        first_missing,
        second_missing,
        one.count,
        one.size,
        two.count,
        two.size,
        three.count,
        three.size,
      )

      pub GrowsPages-linked : GrowsPages start end ws ws3
      GrowsPages-linked = record {
        table = record {
          whole = omega (arith, whole);
          tree = subst (IsTree ws3) {x = made} {y = length ws3 / 512} (omega (arith, whole)) three.tree;
        };
        size = three.size ∙ two.size ∙ one.size;
        entries = λ q. three.same 4 q (omega arith) (λ at. absurd (omega arith))
            ∙ two.same 4 q (omega arith) (λ at. absurd (omega arith))
            ∙ one.same 4 q (omega arith) (λ at. absurd (omega arith));
        grown = λ b low high. three.linked b low (omega arith);
        kept = λ b some. same_leaf b (λ low high. some);
        others = λ b outside. same_leaf b (λ low high. absurd (let past = outside low in omega arith));
      }
