-- At most eight bytes, in an array of eight.
use Rattle.std.specs.Prelude.{ℕ, ◌≡◌, ◌-◌, ◌++◌, List, length, take, replicate}

-- The first `len` of the array's bytes.
abbrev pub first_bytes : List ℕ → ℕ → List ℕ
first_bytes bytes len = take len bytes

-- A list of at most eight bytes, extended with zeros to eight.
abbrev pub padded_to_8 : List ℕ → List ℕ
padded_to_8 list = list ++ replicate (8 - length list) 0

-- Eight bytes, with zeros after the first `len`.
pub record IsFew (bytes : List ℕ) (len : ℕ) : Type 0 where
  pub eight : length bytes ≡ 8
  pub counted : length (first_bytes bytes len) ≡ len
  pub rest : padded_to_8 (first_bytes bytes len) ≡ bytes

-- The first `len` of these bytes, extended with zeros to eight, are these bytes again.
pub padded_again : (bytes : List ℕ) (len : ℕ) → IsFew bytes len → padded_to_8 (first_bytes bytes len) ≡ bytes
padded_again bytes len is = is.rest
