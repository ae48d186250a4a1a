-- The encoding of numbers and unused bytes on a volume.
use Rattle.std.specs.Prelude.{ℕ, zero, suc, ◌-◌, List, [], ◌∷◌, ◌++◌, length, drop, replicate}
use Rattle.byteorder.specs.Endian.{big_bytes, big_number}

-- the lowest n bytes of x, the highest of them first (big-endian)
unfoldable pub number_text : ℕ → ℕ → List ℕ
number_text n x = big_bytes n x

-- the number in the first n bytes, the highest first (big-endian)
unfoldable pub number_in : ℕ → List ℕ → ℕ
number_in n bytes = big_number n bytes

-- the first `count` numbers of n bytes each
abbrev pub numbers_in : ℕ → ℕ → List ℕ → List ℕ
numbers_in n zero bytes = []
numbers_in n (suc count) bytes = number_in n bytes ∷ numbers_in n count (drop n bytes)

-- n bytes of zero
unfoldable pub zeros : ℕ → List ℕ
zeros n = replicate n 0

-- these bytes, followed by zeros up to n bytes
abbrev pub padded : ℕ → List ℕ → List ℕ
padded n bytes = bytes ++ zeros (n - length bytes)
