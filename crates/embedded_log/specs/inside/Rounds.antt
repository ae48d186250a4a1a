-- The effects of private functions that make steps.
use Rattle.std.specs.Prelude.{ℕ, ◌≡◌, ◌⊎◌, true, false}
use Rattle.deferred_disk.specs.Deferred.{Deferred}
use Rattle.log_store.specs.Rounds.{IsResting}
use Rattle.log_files.specs.State.{LogFilesState}
use Rattle.embedded.specs.declared.reading.Unread.{Unread}
use Rattle.embedded_log.specs.Steps.{MakesLogSteps, WhileFull, StopsAtStep, has_log_room}

-- Steps were made while the log had no room.
abbrev pub MakesWhileFull : LogFilesState Deferred → LogFilesState Deferred → Type 0
MakesWhileFull old new = (n : ℕ) × MakesLogSteps WhileFull old n new

-- Steps were made while the log had no room, until one stopped for this reason.
abbrev pub StopsWhileFull : LogFilesState Deferred → Unread → LogFilesState Deferred → Type 0
StopsWhileFull old e new = (last : LogFilesState Deferred) × MakesWhileFull old last × (has_log_room last ≡ false)
    × StopsAtStep last e new

-- The log has room now, or a round has ended. If no round was in progress before, all commits are then written home.
abbrev pub EndsRound : LogFilesState Deferred → LogFilesState Deferred → Type 0
EndsRound old new = (has_log_room new ≡ true)
    ⊎ (IsResting new.pager.store × (IsResting old.pager.store → new.pager.store.tail.used ≡ 0))
