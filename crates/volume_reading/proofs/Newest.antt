-- The newest record of a home block, commit by commit, and the home blocks of files.
use Rattle.std.proofs.Common.{◌≡◌, ◌≢◌, ℕ, suc, ◌+◌, ◌<◌, List, [], ◌∷◌, length, take, get_or}
use Rattle.std.proofs.Common.{sym, ap, ◌∙◌, arith}
use Rattle.std.specs.List.{AllByRecursion}
use Rattle.log_codec.specs.Log.{LogValue}
use Rattle.log_codec.specs.Commit.{LogDescriptor}
use Rattle.log_codec.specs.Chain.{records_position, logged_or, newest_or}
use Rattle.log_recovery.specs.declared.found.FoundCommit.{FoundCommit}
use Rattle.log_recovery.specs.Reading.{ArePlaced, logged_of, chain_of}
use Rattle.log_opening.proofs.Public.{placed_at, split_at, newest_next}

-- no home block is this one
pub all_other : (homes : List ℕ) (b : ℕ) → ((i : ℕ) → i < length homes → get_or homes i 0 ≢ b)
    → AllByRecursion (λ home. home ≢ b) homes
all_other [] b other = tt
all_other (home ∷ homes) b other =
    (other 0 (omega arith), all_other homes b (λ i low. other (suc i) (omega (arith, low))))

module _ {Z : Type 0} (g : LogValue) (p : ℕ) (cs : List (FoundCommit Z)) (c : FoundCommit Z) (i b : ℕ)
    (placed : ArePlaced g p cs) (low : i < length cs) (at : c ≡ get_or cs i c) where
  -- one commit more
  pub newest_more : newest_or g.ring b p (chain_of (take (i + 1) cs)) b
      ≡ logged_or g.ring (newest_or g.ring b p (chain_of (take i cs)) b) (records_position c.position (logged_of c))
      c.homes.items b
  newest_more =
      let ds : List LogDescriptor = chain_of (take i cs) in
      let there = placed_at g p cs c i placed low at in
      ap (λ (l : List LogDescriptor). newest_or g.ring b p l b) (split_at g cs c i low at).1
      ∙ newest_next g.ring b p ds (logged_of c) b
      ∙ ap (λ q. logged_or g.ring (newest_or g.ring b p ds b) (records_position q (logged_of c)) c.homes.items b)
      (sym there.0)
