-- A commit whose last sync also makes a move of the start durable.
use Rattle.std.specs.Prelude.{⊤, ◌⊎◌, ◌<◌, ℕ, Bool, List, [], ◌∷◌, Option, Some, None}
use Rattle.device.specs.declared.device.Device.{Ghosts}
use Rattle.device.specs.Device.{Only}
use Rattle.device.specs.Work.{Work, Sync}
use Rattle.log_codec.specs.declared.sealing.Sealing.{Sealing}
use Rattle.log_codec.specs.declared.sealing.Sealing.TheVariants.{ByByte, ByDigest}
use Rattle.log_commits.specs.declared.behind.OldCommits.{OldCommits}
use Rattle.log_commits.specs.declared.fault.CommitFault.{CommitFault}
use Rattle.log_commits.specs.declared.fault.CommitFault.TheVariants.{Start, Device}
use Rattle.log_commits.specs.Tail.{TailValue}
use Rattle.log_commits.specs.Commit.{MayCommit, RefusesTailCommit, commit_bytes, works_with}
use Rattle.log_commits.specs.Behind.{MayMove, select_works}

-- The last device calls of a commit. They may select the unselected start; `second` is whether the second start is
-- selected before.
abbrev pub last_works : Option Bool → List Work
last_works None = Sync ∷ []
last_works (Some second) = select_works second

-- The device calls of a commit that selects a start. The selecting byte is written once the commit is sealed. One sync
-- makes the seal and this byte durable.
abbrev pub selecting_works : TailValue → Bool → List ℕ → List ℕ → List Work
selecting_works t second homes records =
    works_with t.log.sealing t.log.ring t.position (commit_bytes t homes records) (select_works second)

-- The refusals of such a commit: those of any commit, and those of a move.
abbrev pub RefusesSelecting : TailValue → OldCommits → List ℕ → ℕ → CommitFault → Type 0
RefusesSelecting t oldest homes room Start =
    (t.used < oldest.blocks) ⊎ (oldest.below < t.start.number) ⊎ (t.number < oldest.below)
RefusesSelecting t oldest homes room Device = MayCommit t homes room × MayMove t oldest
RefusesSelecting t oldest homes room fault = RefusesTailCommit t homes room fault

-- The start is written before such a commit. If a byte seals, the commit's first sync makes the start durable. If a
-- digest seals, no sync precedes the selecting byte, so all must be durable already.
abbrev pub IsSureBy : {D : Type 0} → Ghosts D → Sealing → D → Type 0
IsSureBy disk ByByte device = ⊤
IsSureBy disk (ByDigest key) device = Only (disk.may_leave device) (disk.seen device)
