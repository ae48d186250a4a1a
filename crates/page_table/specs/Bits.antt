-- Masks: bit i of a mask is bit i % 64 of its word i / 64.
use Rattle.std.specs.Prelude.{ℕ, ◌/◌, ◌%◌, ◌≡◌, ◌≤◌, ◌<◌, ◌==◌, Bool, true, false}
use Rattle.std.specs.Prelude.{if◌then◌else◌, List, length, slice_index_or, Option, Some, None}
use Rattle.page_entry.specs.Entry.{has_bit}

-- whether a bit of a mask is set
abbrev pub is_set : List ℕ → ℕ → Bool
is_set mask i = has_bit (slice_index_or mask (i / 64) 0) (i % 64)

-- `place` is the first bit from `from` up to `end` that is set.
pub record IsSet (mask : List ℕ) (from end place : ℕ) : Type 0 where
  pub low : from ≤ place
  pub high : place < end
  pub here : is_set mask place ≡ true
  pub before : (i : ℕ) → from ≤ i → i < place → is_set mask i ≡ false

-- `Some`: the first bit from `from` up to `end` that is set. `None`: no bit there is set.
abbrev pub IsFirstSet : List ℕ → ℕ → ℕ → Option ℕ → Type 0
IsFirstSet mask from end None = (i : ℕ) → from ≤ i → i < end → is_set mask i ≡ false
IsFirstSet mask from end (Some place) = IsSet mask from end place

-- Bit `place` is set or cleared. All other bits are unchanged.
pub record Marks (place : ℕ) (set : Bool) (old new : List ℕ) : Type 0 where
  pub size : length new ≡ length old
  pub bits : (i : ℕ) → is_set new i ≡ (if i == place then set else is_set old i)
