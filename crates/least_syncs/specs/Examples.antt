-- Two ways to commit, and how each is recovered. The first takes one sync: its content is the place of a byte. The
-- second takes two: its content doesn't depend on which place is written.
use Rattle.std.specs.Prelude.{ℕ, ◌+◌, List, [], ◌∷◌, slice_index, replicate, nat_eq, if◌then◌else◌}
use Rattle.device.specs.Memory.{DiskChange, Recorded, after_change, new_disk}
use Rattle.device.specs.Memory.DiskChange.{write, sync}

-- Contents that are a number: the place of the first byte that is 1, counted from 1, or 0 if there is none.
abbrev pub flagged : List ℕ → ℕ
flagged [] = 0
flagged (byte ∷ bytes) = if nat_eq byte 1 then 1 else (if nat_eq (flagged bytes) 0 then 0 else flagged bytes + 1)

-- The commit that writes a 1 at this place, and syncs.
abbrev pub flag_at : ℕ → List DiskChange
flag_at place = sync ∷ write place (1 ∷ []) ∷ []

-- A disk of `n` zeros after that commit.
abbrev pub flag_made : ℕ → ℕ → Recorded
flag_made n place = after_change (after_change (new_disk (replicate n 0)) (write place (1 ∷ []))) sync

-- Contents that are a number: the second byte if the first one is 1, otherwise 0.
abbrev pub gated : List ℕ → ℕ
gated c = if nat_eq (slice_index c 0) 1 then slice_index c 1 else 0

-- The commit that writes this byte at the second place, syncs, writes a 1 at the first place, and syncs.
abbrev pub gate_over : ℕ → List DiskChange
gate_over byte = sync ∷ write 0 (1 ∷ []) ∷ sync ∷ write 1 (byte ∷ []) ∷ []

-- A disk of two zeros after that commit.
abbrev pub gate_made : ℕ → Recorded
gate_made byte =
    after_change (after_change (after_change (after_change (new_disk (0 ∷ 0 ∷ [])) (write 1 (byte ∷ []))) sync)
    (write 0 (1 ∷ []))) sync
