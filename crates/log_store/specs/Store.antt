-- The log of a volume in a session, and the state of the device that belongs to it.
use Rattle.std.specs.Prelude.{⊤, ◌≡◌, ◌≢◌, ℕ, ◌+◌, ◌%◌, ◌≤◌, ◌==◌, nat_lt, MatchBool, if◌then◌else◌, Bool, false, not}
use Rattle.std.specs.Prelude.{List, [], ◌∷◌, ◌++◌, length, take}
use Rattle.std.specs.Prelude.{Option, Some, None}
use Rattle.std.specs.List.{Contains}
use Rattle.device.specs.declared.device.Device.{Ghosts}
use Rattle.device.specs.Device.{Only}
use Rattle.device.specs.Work.{Work, Sync}
use Rattle.log_codec.specs.declared.sealing.Sealing.{Sealing}
use Rattle.log_codec.specs.declared.sealing.Sealing.TheVariants.{ByByte, ByDigest}
use Rattle.log_codec.specs.Log.{log_descriptor_blocks}
use Rattle.log_codec.specs.Commit.{LogDescriptor}
use Rattle.log_commits.specs.Tail.{TailValue}
use Rattle.log_commits.specs.Commit.{RefusesTailCommit, commit_works, tail_after}
use Rattle.log_commits.specs.Homes.{IsLoggedHome}
use Rattle.log_commits.specs.declared.behind.OldCommits.{OldCommits}
use Rattle.log_commits.specs.Behind.{HoldsCommits, AreOldest, IsReadyToMove, MayMove, RefusesMove}
use Rattle.log_commits.specs.Behind.{RefusesSure, start_work, select_works, tail_behind}
use Rattle.log_commits.specs.Selecting.{IsSureBy, selecting_works}
use Rattle.log_home.specs.declared.index.Newest.{Newest}
use Rattle.log_home.specs.Index.{Entries, find_in, indexed_homes, recorded_or, from_number, IsIndexOf}
use Rattle.log_home.specs.Work.{HomeWorkValue, AreHome, MayStep, RefusesStep, copy_work, next_copy, no_work, stepped}
use Rattle.log_store.specs.declared.stage.HomeStage.{HomeStage}
use Rattle.log_store.specs.declared.stage.HomeStage.TheVariants.{Resting, Copying, Written, Sure}
use Rattle.log_store.specs.declared.fault.Progress.{Progress}
use Rattle.log_store.specs.declared.fault.Progress.TheVariants.{Idle, Began, Copied, Wrote, Synced, Moved}
use Rattle.log_store.specs.declared.fault.StoreFault.{StoreFault}
use Rattle.log_store.specs.declared.fault.StoreFault.TheVariants.{Commit, Move, Range, Device, OutOfMemory}

-- `tail` is the end of the log. `second` is true if the second start counts. `entries` has each home block's newest
-- record. `stage` is the progress in writing the oldest commits home, and `work` is about these commits. While none are
-- being written home, `work` is that of the last round.
pub record StoreValue : Type 0 where
  pub tail : TailValue
  pub second : Bool
  pub entries : Entries
  pub stage : HomeStage
  pub work : HomeWorkValue

-- The store of a log without commits.
abbrev pub fresh_store : TailValue → Bool → StoreValue
fresh_store tail second = record { tail = tail; second = second; entries = []; stage = Resting; work = no_work }

-- Commits `ds` of a chain are being written home, and `younger` ones were added since. The home blocks that are done
-- have their bytes. The others of `ds` are still to be looked at.
pub record IsWritingHome {D : Type 0} (disk : Ghosts D) (s : StoreValue) (w : HomeWorkValue) (contents : ℕ → List ℕ)
    (chain : List LogDescriptor) (device : D) : Type 0 where
  pub ds : List LogDescriptor
  pub younger : List LogDescriptor
  pub parts : chain ≡ ds ++ younger
  pub oldest : AreOldest s.tail w.oldest ds
  pub all : (b : ℕ) → IsLoggedHome ds b → Contains w.homes b
  pub home : AreHome s.tail.log contents ds younger (take w.done w.homes) (disk.seen device)

-- Commits `ds` of a chain are written home. The start after them is written in place of the one that does not count. A
-- read finds it, and the next sync makes it durable.
pub record IsStartWritten {D : Type 0} (disk : Ghosts D) (s : StoreValue) (oldest : OldCommits) (contents : ℕ → List ℕ)
    (chain : List LogDescriptor) (device : D) : Type 0 where
  pub ds : List LogDescriptor
  pub younger : List LogDescriptor
  pub parts : chain ≡ ds ++ younger
  pub ready : IsReadyToMove s.second s.tail oldest contents ds younger (disk.seen device)

abbrev pub IsStageOver : {D : Type 0} → Ghosts D → StoreValue → HomeStage → (ℕ → List ℕ) → List LogDescriptor → D
    → Type 0
IsStageOver disk s Resting contents chain device = ⊤
IsStageOver disk s Copying contents chain device = IsWritingHome disk s s.work contents chain device
IsStageOver disk s Written contents chain device = IsStartWritten disk s s.work.oldest contents chain device
IsStageOver disk s Sure contents chain device =
    IsStartWritten disk s s.work.oldest contents chain device × Only (disk.may_leave device) (disk.seen device)

-- The store agrees with the device. Each list that a crash may leave contains its log, with these contents. The index
-- and the commits that are being written home are those of the log.
pub record IsStoreOver {D : Type 0} (disk : Ghosts D) (s : StoreValue) (contents : ℕ → List ℕ) (device : D)
    : Type 0 where
  pub chain : List LogDescriptor
  pub holds : (c : List ℕ) → disk.may_leave device c → HoldsCommits s.second s.tail contents chain c
  pub index : IsIndexOf s.tail.log s.tail.start.position chain s.entries
  pub work : IsStageOver disk s s.stage contents chain device

-- Nothing changed, except possibly the memory that is reserved for the index.
pub record KeepsStore (old new : StoreValue) : Type 0 where
  pub tail : new.tail ≡ old.tail
  pub second : new.second ≡ old.second
  pub stage : new.stage ≡ old.stage
  pub work : new.work ≡ old.work
  pub found : (b : ℕ) → find_in new.entries b ≡ find_in old.entries b

-- ---- commits, which may carry a move of the start

-- The old commits after which the next commit selects the start. If a byte seals commits, the first sync of the commit
-- makes the start durable, so the start need only be written. If a digest seals commits, the start must be durable
-- before.
abbrev pub selection_by : Sealing → HomeStage → OldCommits → Option OldCommits
selection_by sealing Resting oldest = None
selection_by sealing Copying oldest = None
selection_by ByByte Written oldest = Some oldest
selection_by (ByDigest key) Written oldest = None
selection_by sealing Sure oldest = Some oldest

abbrev pub selection : StoreValue → Option OldCommits
selection s = selection_by s.tail.log.sealing s.stage s.work.oldest

-- The tail for the start that counts once such a commit is made.
abbrev pub tail_by : TailValue → Option OldCommits → TailValue
tail_by t None = t
tail_by t (Some oldest) = tail_behind t oldest

abbrev pub committing_tail : StoreValue → TailValue
committing_tail s = tail_by s.tail (selection s)

-- The device calls of such a commit.
abbrev pub works_selecting : TailValue → Bool → Option OldCommits → List ℕ → List ℕ → List Work
works_selecting t second None homes records = commit_works t homes records
works_selecting t second (Some oldest) homes records = selecting_works t second homes records

abbrev pub store_commit_works : StoreValue → List ℕ → List ℕ → List Work
store_commit_works s homes records = works_selecting s.tail s.second (selection s) homes records

-- Whether the second start counts after such a commit.
abbrev pub second_by : Bool → Option OldCommits → Bool
second_by second None = second
second_by second (Some oldest) = not second

-- The condition for a commit that selects a start after the commits `ds` of a chain. The start is ready, and durable if
-- that is required before the commit. If the commit selects no start, `ds` is empty.
abbrev pub IsSelectable : {D : Type 0} → Ghosts D → Bool → TailValue → (ℕ → List ℕ) → List LogDescriptor
    → List LogDescriptor → Option OldCommits → D → Type 0
IsSelectable disk second t contents ds younger None device = ds ≡ []
IsSelectable disk second t contents ds younger (Some oldest) device =
    IsReadyToMove second t oldest contents ds younger (disk.seen device) × IsSureBy disk t.log.sealing device

-- The stage after such a commit. A sync was made, so a written start is durable.
abbrev pub stage_by : HomeStage → Option OldCommits → HomeStage
stage_by stage (Some oldest) = Resting
stage_by Resting None = Resting
stage_by Copying None = Copying
stage_by Written None = Sure
stage_by Sure None = Sure

-- The record, unless it belongs to one of these old commits.
abbrev pub unless_old : Option OldCommits → Option Newest → Option Newest
unless_old None newest = newest
unless_old (Some oldest) newest = from_number oldest.below newest

-- A commit of these home blocks was noted in the store.
pub record HasNoted (old new : StoreValue) (homes : List ℕ) : Type 0 where
  pub tail : new.tail ≡ tail_after (committing_tail old) homes
  pub second : new.second ≡ second_by old.second (selection old)
  pub stage : new.stage ≡ stage_by old.stage (selection old)
  pub work : new.work ≡ old.work
  pub found : (b : ℕ) → find_in new.entries b
      ≡ unless_old (selection old) (recorded_or old.tail.log.ring (find_in old.entries b)
      ((old.tail.position + log_descriptor_blocks (length homes)) % old.tail.log.ring) old.tail.number homes b)

-- Why a commit fails: for the reasons of the tail, or for lack of memory, which is always possible.
abbrev pub RefusesStoreCommit : StoreValue → List ℕ → ℕ → StoreFault → Type 0
RefusesStoreCommit s homes room (Commit fault) = RefusesTailCommit s.tail homes room fault
RefusesStoreCommit s homes room OutOfMemory = ⊤
RefusesStoreCommit s homes room other = ⊥

-- The block that contains the bytes of a home block.
abbrev pub block_by : ℕ → Option Newest → ℕ
block_by home None = home
block_by home (Some newest) = newest.block

abbrev pub store_block : StoreValue → ℕ → ℕ
store_block s home = block_by home (find_in s.entries home)

-- Why the search for the end of the log fails.
abbrev pub RefusesEnd : StoreFault → Type 0
RefusesEnd Device = ⊤
RefusesEnd OutOfMemory = ⊤
RefusesEnd other = ⊥

-- Why reading a home block fails.
abbrev pub RefusesRead : StoreValue → ℕ → StoreFault → Type 0
RefusesRead s home Range = s.tail.log.blocks ≤ store_block s home
RefusesRead s home Device = ⊤
RefusesRead s home other = ⊥

-- The number of device calls that reading a home block makes. There are none if its block lies past the volume.
abbrev pub store_read_calls : StoreValue → ℕ → ℕ
store_read_calls s home = if nat_lt (store_block s home) s.tail.log.blocks then 1 else 0

-- ---- steps

-- The work for all commits of the log, before its first step.
abbrev pub begun_work : StoreValue → HomeWorkValue
begun_work s = record {
  oldest = record { below = s.tail.number; blocks = s.tail.used };
  homes = indexed_homes s.entries;
  done = 0;
}

-- The store with this work in progress.
abbrev pub working : StoreValue → HomeWorkValue → StoreValue
working s w = record s { stage = Copying; work = w }

-- The start moved past the old commits, and they are forgotten.
pub record HasMovedStart (old new : StoreValue) (oldest : OldCommits) : Type 0 where
  pub tail : new.tail ≡ tail_behind old.tail oldest
  pub second : new.second ≡ not old.second
  pub stage : new.stage ≡ Resting
  pub work : new.work ≡ old.work
  pub found : (b : ℕ) → find_in new.entries b ≡ from_number oldest.below (find_in old.entries b)

-- The effect of a step, by the stage.
abbrev pub StepsBy : StoreValue → HomeStage → StoreValue → Progress → Type 0
StepsBy old Resting new Idle = (old.tail.used ≡ 0) × (new ≡ old)
StepsBy old Resting new Began = (old.tail.used ≢ 0) × (new ≡ working old (begun_work old))
StepsBy old Copying new Copied = (old.work.done ≢ length old.work.homes) × (new ≡ working old (stepped old.work))
StepsBy old Copying new Wrote = (old.work.done ≡ length old.work.homes) × (new ≡ record old { stage = Written })
StepsBy old Written new Synced = new ≡ record old { stage = Sure }
StepsBy old Sure new Moved = HasMovedStart old new old.work.oldest
StepsBy old stage new progress = ⊥

-- Why a step fails.
abbrev pub RefusesStepBy : StoreValue → HomeStage → StoreFault → Type 0
RefusesStepBy s Resting OutOfMemory = ⊤
RefusesStepBy s Copying (Move fault) =
    MatchBool (s.work.done == length s.work.homes) (RefusesMove s.tail s.work.oldest fault)
    (RefusesStep s.tail (next_copy s.work s.entries) fault)
RefusesStepBy s Written (Move fault) = RefusesSure s.tail fault
RefusesStepBy s Sure (Move fault) = RefusesMove s.tail s.work.oldest fault
RefusesStepBy s stage other = ⊥

-- Holds if the step may be made.
abbrev pub MayStepBy : StoreValue → HomeStage → Type 0
MayStepBy s Resting = ⊤
MayStepBy s Copying =
    MatchBool (s.work.done == length s.work.homes) (MayMove s.tail s.work.oldest)
    (MayStep s.tail (next_copy s.work s.entries))
MayStepBy s Written = s.tail.spent ≡ false
MayStepBy s Sure = MayMove s.tail s.work.oldest

-- The device calls of the step.
abbrev pub step_works : StoreValue → HomeStage → List Work
step_works s Resting = []
step_works s Copying =
    if s.work.done == length s.work.homes then start_work s.tail s.second s.work.oldest ∷ []
    else copy_work (next_copy s.work s.entries) ∷ []
step_works s Written = Sync ∷ []
step_works s Sure = select_works s.second
