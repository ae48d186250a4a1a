-- The rows of the crash table.
use Rattle.std.specs.Prelude.{ℕ, ◌≡◌, ◌+◌, ◌<◌, ◌≤◌, Bool, List, map, length}
use Rattle.std.specs.Prelude.{slice_get, Option, Some, None, Contains}
use Rattle.crash_states.specs.declared.call.CallKind.TheVariants.{Write}
use Rattle.crash_states.specs.declared.choice.Choice.{Choice}
use Rattle.crash_states.specs.declared.choice.Choice.TheVariants.{Old, New}
use Rattle.crash_states.specs.declared.row.Found.{Found}
use Rattle.crash_states.specs.declared.row.Row.{Row}
use Rattle.crash_states.specs.Calls.{DeviceCall}
use Rattle.crash_states.specs.Choices.{content_within, left_by, choices_of}

-- Rows that are made one by one: the run, the number of rows made, and whether a row could not be made.
pub record RowsValue (T : Type 0) : Type 0 where
  pub trial : T
  pub next : ℕ
  pub failed : Bool

-- The row has a crash state for this choice.
abbrev pub HasState : {A : Type 0} → Row A → Choice → Type 0
HasState row choice = (found : Found) × Contains row.found.items found × (found.choice ≡ choice)

-- The row of the call of index i, counted from 0, or of the run's end. The run has these device calls, on a disk with
-- these bytes. `leaves` is the relation between a call's number, what a crash within the call leaves, and the mark of
-- the files.
pub record IsRowOf {A : Type 0} (image : List ℕ) (calls : List DeviceCall) (leaves : ℕ → List ℕ → ℕ → Type 0) (i : ℕ)
    (row : Row A) : Type 0 where
  pub number : row.number ≡ i + 1
  pub unsynced : row.unsynced ≡ length (content_within image calls i).unsynced
  -- Each crash state is what its choice leaves, and has the files at its mark.
  pub each : (found : Found) → Contains row.found.items found
      → leaves row.number (left_by found.choice (content_within image calls i)) found.mark
  -- Exactly these choices are tried, each once.
  pub tried : map (λ f. f.choice) row.found.items ≡ choices_of row.unsynced
  pub old : HasState row Old
  -- If a block may be torn, also by the call of the row itself, the choice `New` is tried.
  pub new : 0 < row.unsynced → HasState row New
  pub torn : (call : DeviceCall) → slice_get calls i ≡ Some call → call.kind ≡ Write → 0 < length call.written
      → HasState row New

-- The next row, if there is one: first the rows of the calls, in order, then the row of the run's end.
abbrev pub IsNext : {T A : Type 0} → (T → List ℕ) → (T → List DeviceCall) → (T → ℕ → List ℕ → ℕ → Type 0)
    → RowsValue T → Option (Row A) → RowsValue T → Type 0
IsNext image calls leaves old None new = (length (calls old.trial) < old.next) × (new ≡ old)
IsNext image calls leaves old (Some row) new = (old.next ≤ length (calls old.trial))
    × IsRowOf (image old.trial) (calls old.trial) (leaves old.trial) old.next row
    × (new ≡ record old { next = old.next + 1 })
