-- Counts of calls.
use Rattle.std.specs.Prelude.{ℕ, ◌+◌, ◌-◌, ◌^◌, nat_lt, if◌then◌else◌}

-- The count after one more call. It stays at 2^64-1 once it is that large.
abbrev pub raised : ℕ → ℕ
raised n = if nat_lt n (2 ^ 64 - 1) then n + 1 else n
