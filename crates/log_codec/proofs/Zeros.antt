-- Bytes that are all zero.
use Rattle.std.proofs.Common.{◌≡◌, ℕ, zero, suc, ◌<◌, List, length, get_or, refl, sym, ◌∙◌}
use Rattle.std.proofs.lemmas.List.{ext_get_or}
use Rattle.volume_codec.specs.Text.{zeros}
use Rattle.volume_codec.proofs.Public.{length-zeros}

pub zero_at : (n k : ℕ) → get_or (zeros n) k 0 ≡ 0
unfolding zeros
zero_at zero k = refl
zero_at (suc n) zero = refl
zero_at (suc n) (suc k) = zero_at n k

pub all_zeros : (bytes : List ℕ) → ((k : ℕ) → k < length bytes → get_or bytes k 0 ≡ 0) → bytes ≡ zeros (length bytes)
all_zeros bytes each =
    ext_get_or 0 bytes (zeros (length bytes)) (sym (length-zeros (length bytes)))
    (λ k lt. each k lt ∙ sym (zero_at (length bytes) k))
