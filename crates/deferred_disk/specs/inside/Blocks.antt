-- The blocks of a disk that are known, and their bytes.
use Rattle.std.specs.Prelude.{◌≡◌, ◌⊎◌, ℕ, zero, suc, ◌+◌, ◌*◌, ◌<◌, ◌≤◌, Bool, List, [], ◌∷◌, ◌++◌, length}
use Rattle.std.specs.Prelude.{replicate, slice_range, Option, Some, None, is_some, IfSome}

-- the bytes of all blocks in order, and whether each block is known
pub record Known : Type 0 where
  pub bytes : List ℕ
  pub flags : List Bool

-- the bytes that are used for a block that isn't known
unfoldable pub blank_room : List ℕ
blank_room = replicate 4096 0

-- the bytes of a block, if a map contains it
abbrev pub room_bytes : Option (List ℕ) → List ℕ
room_bytes None = blank_room
room_bytes (Some bytes) = bytes

-- the bytes of n blocks, in order
abbrev pub all_rooms : (ℕ → Option (List ℕ)) → ℕ → List ℕ
all_rooms rooms zero = []
all_rooms rooms (suc n) = all_rooms rooms n ++ room_bytes (rooms n)

-- whether each of n blocks is known
abbrev pub flags_of : (ℕ → Option (List ℕ)) → ℕ → List Bool
flags_of rooms zero = []
flags_of rooms (suc n) = flags_of rooms n ++ is_some (rooms n) ∷ []

-- Each block that the map contains has 4,096 bytes.
abbrev pub AreWhole : (ℕ → Option (List ℕ)) → Type 0
AreWhole rooms = (block : ℕ) → IfSome (rooms block) (λ bytes. length bytes ≡ 4096)

-- The map `new` has the n blocks of `run` from block `from` on, and otherwise the blocks of the map `rooms`.
pub record Enters (rooms new : ℕ → Option (List ℕ)) (from n : ℕ) (run : List ℕ) : Type 0 where
  pub inside : (k : ℕ) → k < n → new (from + k) ≡ Some (slice_range run (4096 * k) (4096 * k + 4096))
  pub outside : (block : ℕ) → (block < from) ⊎ (from + n ≤ block) → new block ≡ rooms block
