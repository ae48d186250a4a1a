-- The bytes that a disk reads from a file that is as long as the disk.
use Rattle.std.specs.Prelude.{◌≡◌, ℕ, List, ◌++◌, length, replicate}
use Rattle.std.proofs.Common.{sym, ◌∙◌, subst, arith, length-append, length-take}
use Rattle.std.proofs.lemmas.List.{take_at, length-replicate}
use Rattle.device.specs.File.{fitted}

pub fitted_size : (n : ℕ) (bytes : List ℕ) → length (fitted n bytes) ≡ n
unfolding fitted
fitted_size n bytes = omega (
  arith,
  length-take n (bytes ++ replicate n 0),
  length-append bytes (replicate n 0),
  length-replicate {A = ℕ} n 0,
)

-- A file of this length is read unchanged.
pub whole_fitted : (n : ℕ) (bytes : List ℕ) → length bytes ≡ n → fitted n bytes ≡ bytes
unfolding fitted
whole_fitted n bytes same = take_at bytes (replicate n 0) n same

pub fitted_is_left : (lists : List ℕ → Type 0) (n : ℕ) (bytes : List ℕ) → length bytes ≡ n → lists bytes
    → lists (fitted n bytes)
fitted_is_left lists n bytes same left = subst lists (sym (whole_fitted n bytes same)) left

pub fitted_is_whole : (n : ℕ) (bytes c : List ℕ) → length bytes ≡ n → length c ≡ length bytes
    → length c ≡ length (fitted n bytes)
fitted_is_whole n bytes c same whole = whole ∙ same ∙ sym (fitted_size n bytes)
