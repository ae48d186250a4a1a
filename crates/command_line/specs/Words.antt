-- The forms of words on the command line.
use Rattle.std.specs.Prelude.{◌≡◌, ◌≢◌, ◌⊎◌, Bool, true, ℕ, ◌<◌, ◌^◌, List, ◌∷◌, ◌++◌, length, slice_index}
use Rattle.std.specs.Str.Parse.{IsNumeral, digits_value}

-- The word consists of one or more decimal digits, and their number is below 2^64.
abbrev pub IsDecimal : List ℕ → Type 0
IsDecimal digits = IsNumeral 10 digits × (digits_value 10 digits < 2 ^ 64)

-- The word consists of one or more hexadecimal digits, and their number is below 2^64.
abbrev pub IsHexadecimal : List ℕ → Type 0
IsHexadecimal digits = IsNumeral 16 digits × (digits_value 16 digits < 2 ^ 64)

-- The word consists of 16 hexadecimal digits.
abbrev pub IsKey : List ℕ → Type 0
IsKey word = IsHexadecimal word × (length word ≡ 16)

-- No element of the word is `c`.
abbrev pub Lacks : ℕ → List ℕ → Type 0
Lacks c word = (i : ℕ) → i < length word → slice_index word i ≢ c

-- The last `c` of the word is between `before` and `rest`.
pub record IsLastCut (c : ℕ) (word before rest : List ℕ) : Type 0 where
  pub whole : word ≡ before ++ c ∷ rest
  pub last : Lacks c rest

-- The decimal digits write the number n.
abbrev pub IsNumber : List ℕ → ℕ → Type 0
IsNumber digits n = IsDecimal digits × (n ≡ digits_value 10 digits)

-- The word is a length in decimal digits, which is also the capacity. If files may grow, it may also be a length, `/`
-- and a capacity.
abbrev pub AreSizes : Bool → List ℕ → ℕ → ℕ → Type 0
AreSizes grows word bytes capacity = (IsNumber word bytes × (capacity ≡ bytes))
    ⊎ ((grows ≡ true) × (before : List ℕ) × (rest : List ℕ) × IsLastCut 47 word before rest
    × IsNumber before bytes × IsNumber rest capacity)

-- The word has no form of `AreSizes`.
abbrev pub AreNoSizes : Bool → List ℕ → Type 0
AreNoSizes grows word = (¬ (IsDecimal word))
    × (grows ≡ true → Lacks 47 word ⊎ ((before : List ℕ) × (rest : List ℕ) × IsLastCut 47 word before rest
    × ((¬ (IsDecimal before)) ⊎ (¬ (IsDecimal rest)))))

-- The word consists of a name, `=`, and sizes.
pub record IsFile (grows : Bool) (word name : List ℕ) (bytes capacity : ℕ) : Type 0 where
  pub rest : List ℕ
  pub cut : IsLastCut 61 word name rest
  pub sizes : AreSizes grows rest bytes capacity

-- The word has no `=`, or no sizes follow the last `=`.
abbrev pub IsNoFile : Bool → List ℕ → Type 0
IsNoFile grows word = Lacks 61 word
    ⊎ ((name : List ℕ) × (rest : List ℕ) × IsLastCut 61 word name rest × AreNoSizes grows rest)
