-- How the calls of a request change the state, if the host supplied each block as the disk had it.
use Rattle.std.specs.Prelude.{⊤, ◌≡◌, ℕ, true, List, Contains}
use Rattle.deferred_disk.specs.Deferred.{Deferred, carried_moment, IsSuppliedWell}
use Rattle.recovery.specs.Reading.{IsOnlyRead}
use Rattle.history.specs.History.{Event, Acknowledge}
use Rattle.log_files.specs.State.{LogFilesState}
use Rattle.embedded.specs.Recorded.{deferred_disk}
use Rattle.embedded_log.specs.Runs.{HasRunLog, HasServedLog}

-- The calls of a request led from one state to another, after any earlier calls. They didn't change the number of
-- device calls that the host has made. If a device call of a commit or a step had failed before, the device was only
-- read.
pub record LeadsLog (old new : LogFilesState Deferred) : Type 0 where
  pub well : IsSuppliedWell new.pager.device → IsSuppliedWell old.pager.device
  pub carried : carried_moment new.pager.device ≡ carried_moment old.pager.device
  pub goes : IsSuppliedWell new.pager.device → (start : LogFilesState Deferred) (before : List Event)
      → HasRunLog start before old → (after : List Event) × HasServedLog start after new
  pub stuck : IsSuppliedWell new.pager.device → old.pager.store.tail.spent ≡ true
      → IsOnlyRead deferred_disk old.pager.device new.pager.device × (new.pager.store.tail.spent ≡ true)

-- The same for calls that didn't fail. E holds for their events.
pub record RunsLog (E : List Event → Type 0) (old new : LogFilesState Deferred) : Type 0 where
  pub well : IsSuppliedWell new.pager.device → IsSuppliedWell old.pager.device
  pub carried : carried_moment new.pager.device ≡ carried_moment old.pager.device
  pub runs : IsSuppliedWell new.pager.device → (start : LogFilesState Deferred) (before : List Event)
      → HasRunLog start before old → (after : List Event) × E after × HasRunLog start after new

abbrev pub AnyEvents : List Event → Type 0
AnyEvents events = ⊤

abbrev pub HasAcknowledgedMark : ℕ → List Event → Type 0
HasAcknowledgedMark mark events = Contains events (Acknowledge mark)
