-- The calls that wait for the host, as recorded changes.
use Rattle.std.specs.Prelude.{List, [], ◌∷◌, ◌++◌}
use Rattle.device.specs.Memory.{DiskChange}
use Rattle.device.specs.Memory.DiskChange.{write, sync}
use Rattle.deferred_disk.specs.declared.waiting.WaitingCall.{WaitingCall}
use Rattle.deferred_disk.specs.declared.waiting.WaitingCall.TheVariants.{Write, Sync}

abbrev pub change_of : {A : Type 0} → WaitingCall A → DiskChange
change_of (Write at bytes) = write at bytes
change_of Sync = sync

-- these calls as changes, the last one first
abbrev pub changes_of : {A : Type 0} → List (WaitingCall A) → List DiskChange
changes_of [] = []
changes_of (call ∷ log) = changes_of log ++ change_of call ∷ []
