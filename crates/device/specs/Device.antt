-- How the calls of a disk change its content, and what a crash between two syncs may leave.
use Rattle.std.specs.Prelude.{◌≡◌, ◌⊎◌, ℕ, ◌+◌, ◌≤◌, List, ◌++◌, length, take, drop}

-- `old`, with these bytes written at offset `at`
abbrev pub written : List ℕ → ℕ → List ℕ → List ℕ
written old at bytes = take at old ++ bytes ++ drop (at + length bytes) old

-- `new` has any bytes in the n places from `at` on, and agrees with `old` elsewhere.
pub record Torn (at n : ℕ) (old new : List ℕ) : Type 0 where
  pub before : take at new ≡ take at old
  pub after : drop (at + n) new ≡ drop (at + n) old
  pub same_length : length new ≡ length old

-- The list c is one of `lists`, torn in the n places from `at` on.
abbrev pub TornFrom : ℕ → ℕ → (List ℕ → Type 0) → List ℕ → Type 0
TornFrom at n lists c = (d : List ℕ) × lists d × Torn at n d c

-- Each of `lists` is this list.
abbrev pub Only : (List ℕ → Type 0) → List ℕ → Type 0
Only lists only = (c : List ℕ) → lists c → c ≡ only

-- A crash at any moment between the states `old` and `new` leaves a list for which P holds.
pub record LeavesOnly {D : Type 0} (moment : D → ℕ) (left_since : D → ℕ → List ℕ → Type 0) (old new : D)
    (P : List ℕ → Type 0) : Type 0 where
  -- Moments never decrease.
  pub later : moment old ≤ moment new
  -- P holds for what a crash since `old` might have left.
  pub each : (c : List ℕ) → left_since new (moment old) c → P c
  -- A crash since an earlier moment came before `old` or after it.
  pub before : (t : ℕ) (c : List ℕ) → t ≤ moment old → left_since new t c → left_since old t c ⊎ P c
  -- What a crash might have left before `old` is still possible.
  pub keeps : (t : ℕ) (c : List ℕ) → t ≤ moment old → left_since old t c → left_since new t c
