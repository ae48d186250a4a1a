-- Bytes that are padded to a block.
use Rattle.std.proofs.Common.{◌≡◌, ℕ, List, length, take, ap, inl, inr, arith, ◌-◌, ◌++◌, ◌∙◌}
use Rattle.std.proofs.lemmas.Bool.{cases_lt}
use Rattle.std.proofs.lemmas.List.{take_at, take_all, length-take, append-nil}
use Rattle.volume_codec.specs.Text.{zeros, padded}
use Rattle.volume_codec.proofs.Public.{zeros-nil}

pub nothing_padded : (n : ℕ) (t : List ℕ) → length t ≡ n → padded n t ≡ t
nothing_padded n t size = let none : n - length t ≡ 0 = omega arith in
    ap (λ k. t ++ zeros k) none ∙ ap (λ (z : List ℕ). t ++ z) zeros-nil ∙ append-nil t

-- what is padded keeps its first bytes
pub take-padded_take : (n m : ℕ) (t : List ℕ) → length t ≡ n → take m (padded n (take m t)) ≡ take m t
take-padded_take n m t size =
    elim (cases_lt m n) [
      | inl lt ↦ take_at (take m t) (zeros (n - length (take m t))) m (omega (arith, length-take m t))
      | inr le ↦
          let whole : take m t ≡ t = take_all m t (omega arith) in
          ap (λ (l : List ℕ). take m (padded n l)) whole ∙ ap (take m) (nothing_padded n t size)
    ]
