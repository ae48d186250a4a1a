-- Blocks that are kept in memory: home blocks with their bytes, in rising order.
use Rattle.std.specs.Prelude.{⊤, ◌≡◌, ℕ, zero, suc, ◌+◌, ◌==◌, ◌||◌, nat_lt, nat_le, if◌then◌else◌, List, [], ◌∷◌}
use Rattle.std.specs.Prelude.{◌++◌, length, map, Option, Some, None, filter, take}
use Rattle.std.specs.Option.{option_or}
use Rattle.volume_codec.specs.Text.{padded, zeros}

-- The number and the bytes of each home block.
abbrev pub Blocks : Type 0
Blocks = List (ℕ × List ℕ)

-- the numbers of these home blocks
abbrev pub homes_in : Blocks → List ℕ
homes_in blocks = map (λ block. block.0) blocks

-- Each block has 4,096 bytes.
abbrev pub AreWholeBlocks : Blocks → Type 0
AreWholeBlocks [] = ⊤
AreWholeBlocks (block ∷ blocks) = (length block.1 ≡ 4096) × AreWholeBlocks blocks

-- The bytes of all blocks, in order.
abbrev pub all_bytes : Blocks → List ℕ
all_bytes [] = []
all_bytes (block ∷ blocks) = block.1 ++ all_bytes blocks

-- The bytes of a home block, if it is in the list.
abbrev pub bytes_in : Blocks → ℕ → Option (List ℕ)
bytes_in [] home = None
bytes_in (block ∷ blocks) home = if home == block.0 then Some block.1 else bytes_in blocks home

-- The blocks after a home block got these bytes. They replace its old bytes, if it was in the list.
abbrev pub with_home : Blocks → ℕ → List ℕ → Blocks
with_home [] home bytes = (home, bytes) ∷ []
with_home (block ∷ blocks) home bytes =
    if nat_lt home block.0 then (home, bytes) ∷ block ∷ blocks
    else (if home == block.0 then (home, bytes) ∷ blocks else block ∷ with_home blocks home bytes)

-- The bytes of a home block in the newest list that contains it. The oldest list comes first.
abbrev pub newest_in : List Blocks → ℕ → Option (List ℕ)
newest_in [] home = None
newest_in (blocks ∷ newer) home = option_or (newest_in newer home) (bytes_in blocks home)

-- a page's first n bytes, then zeros
abbrev pub cut_to : ℕ → List ℕ → List ℕ
cut_to n bytes = padded 4096 (take n bytes)

-- The blocks after `n` home blocks, from `home` on, became zeros.
abbrev pub with_zeros : Blocks → ℕ → ℕ → Blocks
with_zeros blocks home zero = blocks
with_zeros blocks home (suc n) = with_home (with_zeros blocks home n) (home + n) (zeros 4096)

-- The blocks without those from `low` on that come before `high`.
abbrev pub without_run : Blocks → ℕ → ℕ → Blocks
without_run blocks low high = filter (λ block. nat_lt block.0 low || nat_le high block.0) blocks

-- The blocks after all but the first `n` bytes of a home block became zeros, if it is in the list.
abbrev pub cut_in : Blocks → ℕ → ℕ → Blocks
cut_in blocks home n = map (λ block. (block.0, if block.0 == home then cut_to n block.1 else block.1)) blocks
