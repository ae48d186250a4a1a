-- The blocks of a chain, commit by commit.
use Rattle.std.proofs.Common.{◌≡◌, ℕ, ◌+◌, ◌<◌, ◌≤◌, List, [], ◌∷◌, ◌++◌, length, take, drop, get_or}
use Rattle.std.proofs.Common.{ap, ◌∙◌, arith}
use Rattle.log_codec.specs.Log.{LogValue, log_descriptor_blocks}
use Rattle.log_codec.specs.Commit.{LogDescriptor}
use Rattle.log_codec.specs.Chain.{chain_blocks}
use Rattle.log_recovery.specs.declared.found.FoundCommit.{FoundCommit}
use Rattle.log_recovery.specs.Reading.{ArePlaced, logged_of, chain_of}
use Rattle.log_opening.proofs.Public.{placed_at, split_at}

-- the blocks of two chains
blocks_both : (ds es : List LogDescriptor) → chain_blocks (ds ++ es) ≡ chain_blocks ds + chain_blocks es
blocks_both [] es = omega arith
blocks_both (d ∷ ds) es =
    let rest = blocks_both ds es in
    omega (arith, rest)

module _ {Z : Type 0} (g : LogValue) (p : ℕ) (cs : List (FoundCommit Z)) (c : FoundCommit Z) (i : ℕ)
    (placed : ArePlaced g p cs) (low : i < length cs) (at : c ≡ get_or cs i c) where
  -- one commit more
  pub used_more : chain_blocks (chain_of (take (i + 1) cs))
      ≡ chain_blocks (chain_of (take i cs)) + (c.head + length c.homes.items)
  used_more =
      let there = placed_at g p cs c i placed low at in
      let both = blocks_both (chain_of (take i cs)) (logged_of c ∷ []) in
      let head : c.head ≡ log_descriptor_blocks (length c.homes.items) = there.1 in
      ap chain_blocks (split_at g cs c i low at).1 ∙ omega (arith, both, head)

  -- the commits up to this one take no more than all
  pub used_within : chain_blocks (chain_of (take i cs)) + (c.head + length c.homes.items) ≤ chain_blocks (chain_of cs)
  used_within =
      let there = placed_at g p cs c i placed low at in
      let all = ap chain_blocks (split_at g cs c i low at).0 in
      let both = blocks_both (chain_of (take i cs)) (logged_of c ∷ chain_of (drop (i + 1) cs)) in
      let head : c.head ≡ log_descriptor_blocks (length c.homes.items) = there.1 in
      omega (arith, all, both, head)
