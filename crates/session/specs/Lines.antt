-- The lines of an input.
use Rattle.std.specs.Prelude.{ℕ, ◌≡◌, ◌≢◌, ◌⊎◌, ◌<◌, ◌≤◌, List, [], ◌∷◌, ◌++◌, length, All, Option, Some, None, ⊤}
use Rattle.session.specs.declared.line.Line.{Line}
use Rattle.session.specs.declared.line.Line.TheVariants.{Whole, Long, End}

-- No byte is a line feed.
abbrev pub HasNoFeed : List ℕ → Type 0
HasNoFeed bytes = All (λ byte. byte ≢ 10) bytes

-- The bytes begin with this line, without its line feed, and `rest` follows. The last line may have no line feed, but
-- then it isn't empty.
abbrev pub IsNextLine : List ℕ → List ℕ → List ℕ → Type 0
IsNextLine bytes line rest =
    HasNoFeed line × ((bytes ≡ line ++ 10 ∷ rest) ⊎ ((bytes ≡ line) × (line ≢ []) × (rest ≡ [])))

-- Rule: long line: A session skips a line of more than 262144 bytes. No part of the line is read as a request.
-- A line of at most 262144 bytes is given as it is. For a longer line, `None` is given.
abbrev pub IsGiven : Option (List ℕ) → List ℕ → Type 0
IsGiven (Some given) line = (given ≡ line) × (length line ≤ 262144)
IsGiven None line = 262144 < length line

-- The bytes begin with these lines, in order, and `rest` follows.
abbrev pub AreLines : List ℕ → List (Option (List ℕ)) → List ℕ → Type 0
AreLines bytes [] rest = rest ≡ bytes
AreLines bytes (given ∷ lines) rest =
    (line after : List ℕ) × IsNextLine bytes line after × IsGiven given line × AreLines after lines rest

-- The bytes begin with a line, and `rest` follows; or there are no bytes. The line is given if it isn't too long.
abbrev pub BeginsWith : List ℕ → Line → List ℕ → List ℕ → Type 0
BeginsWith bytes Whole given rest = IsNextLine bytes given rest × (length given ≤ 262144)
BeginsWith bytes Long given rest = (line : List ℕ) × IsNextLine bytes line rest × (262144 < length line)
BeginsWith bytes End given rest = (bytes ≡ []) × (rest ≡ [])

-- If the input's bytes are known, this line, or the end of the input, was read from them.
abbrev pub ReadsLine : Option (List ℕ) → Option (List ℕ) → Line → List ℕ → Type 0
ReadsLine None new found given = ⊤
ReadsLine (Some bytes) None found given = ⊥
ReadsLine (Some bytes) (Some rest) found given = BeginsWith bytes found given rest

-- If the input's bytes are known, these lines were read from them.
abbrev pub ReadsLines : Option (List ℕ) → Option (List ℕ) → List (Option (List ℕ)) → Type 0
ReadsLines None new lines = ⊤
ReadsLines (Some bytes) None lines = ⊥
ReadsLines (Some bytes) (Some rest) lines = AreLines bytes lines rest
