-- The changes in the log of a disk in memory.
use Rattle.std.specs.Prelude.{List, [], ◌∷◌, ◌++◌}
use Rattle.device.specs.Memory.{DiskChange}
use Rattle.device.specs.Memory.DiskChange.{write, sync}
use Rattle.device.specs.declared.log.Logged.{Logged}
use Rattle.device.specs.declared.log.Logged.TheVariants.{Write, Sync}

abbrev pub change_of : {A : Type 0} → Logged A → DiskChange
change_of (Write at bytes) = write at bytes.items
change_of Sync = sync

-- the changes of a log, the last one first
abbrev pub changes_of : {A : Type 0} → List (Logged A) → List DiskChange
changes_of [] = []
changes_of (entry ∷ log) = changes_of log ++ change_of entry ∷ []
