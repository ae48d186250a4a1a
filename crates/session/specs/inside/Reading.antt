-- Reading a line part by part.
use Rattle.std.specs.Prelude.{ℕ, ◌≡◌, ◌⊎◌, ◌<◌, ◌≤◌, Bool, true, false, List}
use Rattle.std.specs.Prelude.{[], ◌∷◌, ◌++◌, length, take, Option, OnSome}
use Rattle.std.specs.Io.KnownBytes.{Consumes, IsAtEnd}
use Rattle.session.specs.Lines.{HasNoFeed}

-- The first `count` bytes, which are at most `most`, belong to one line and its line feed. `ends` is true if the line
-- feed is the last of them. It may also be true if `count` is 0 because there are no bytes or `most` is 0.
abbrev pub IsPart : List ℕ → ℕ → ℕ → Bool → Type 0
IsPart bytes most count ends = (count ≤ length bytes) × (count ≤ most)
    × (((front : List ℕ) × (take count bytes ≡ front ++ 10 ∷ []) × HasNoFeed front × (ends ≡ true))
    ⊎ (HasNoFeed (take count bytes) × (ends ≡ false))
    ⊎ ((count ≡ 0) × (ends ≡ true) × (0 < most → length bytes ≡ 0)))

-- These bytes of a line were read, with its line feed if it follows at most 262144 bytes. If the flag is true, no more
-- of the line is read. Then the bytes end with the line feed or at the end of the input, or they are 262145 bytes.
abbrev pub ReadsPart : Option (List ℕ) → Option (List ℕ) → List ℕ → Bool → Type 0
ReadsPart old new read false = HasNoFeed read × (length read ≤ 262145) × Consumes old new read
ReadsPart old new read true = Consumes old new read
    × (((front : List ℕ) × (read ≡ front ++ 10 ∷ []) × HasNoFeed front × (length front ≤ 262144))
    ⊎ (HasNoFeed read × ((length read ≡ 262145) ⊎ ((length read ≤ 262144) × OnSome old (IsAtEnd new)))))
