-- The state of a device after a range of it was overwritten in pieces.
use Rattle.std.specs.Prelude.{◌≡◌, ◌↔◌, ℕ, List, length}
use Rattle.device.specs.Device.{Torn, TornFrom, LeavesOnly}

-- The calls since `old` wrote within this range only, and made no write durable.
pub record WroteWithin {D : Type 0} (seen : D → List ℕ) (may_leave : D → List ℕ → Type 0) (moment : D → ℕ)
    (left_since : D → ℕ → List ℕ → Type 0) (is_honest : D → Type 0) (carried : D → ℕ) (at len : ℕ) (old new : D)
    : Type 0 where
  pub torn : is_honest old → Torn at len (seen old) (seen new)
  pub keeps : is_honest old → (c : List ℕ) → may_leave old c → may_leave new c
  pub left : (c : List ℕ) → may_leave new c → TornFrom at len (may_leave old) c
  pub time : LeavesOnly moment left_since old new (TornFrom at len (may_leave old))
  pub honest : is_honest new ↔ is_honest old
  pub same_length : length (seen new) ≡ length (seen old)
  pub same_carried : carried new ≡ carried old
