-- Steps write no byte of the log, so that the log ends where it did.
use Rattle.std.proofs.Common.{◌⊎◌, ℕ, ◌+◌, ◌*◌, ◌≤◌, ◌==◌, Bool, true, false, List, [], ◌∷◌, length, cond}
use Rattle.std.proofs.Common.{inl, inr, arith}
use Rattle.std.specs.Prelude.{⊤, Option, Some, None, MatchBool, not}
use Rattle.std.specs.List.{AllByRecursion}
use Rattle.device.specs.Device.{Torn}
use Rattle.device.specs.Work.{Work, WriteAt, CopyBlock, Sync, Nothing, TornFromWork}
use Rattle.device.specs.declared.device.Device.{Ghosts}
use Rattle.device.proofs.Public.{torn_before, torn_after}
use Rattle.log_codec.specs.Start.{start_block}
use Rattle.log_commits.specs.declared.behind.OldCommits.{OldCommits}
use Rattle.log_commits.specs.Behind.{MayMove, start_behind, start_work}
use Rattle.log_commits.specs.Calls.{DidAll}
use Rattle.log_commits.specs.Tail.{TailValue, EndsAtTail}
use Rattle.log_commits.proofs.Public.{ended_same, length-start_text, same_block}
use Rattle.log_home.specs.Work.{MayStep, copy_work, next_copy}
use Rattle.log_home.specs.declared.index.Newest.{Newest}
use Rattle.log_store.specs.declared.stage.HomeStage.{HomeStage}
use Rattle.log_store.specs.declared.stage.HomeStage.TheVariants.{Resting, Copying, Written, Sure}
use Rattle.log_store.specs.Store.{StoreValue, MayStepBy, step_works}
use Rattle.log_store.proofs.Staying.{Stays, all_stay}

-- the work writes no block of a log of this many blocks
abbrev pub IsOutsideLog : ℕ → Work → Type 0
IsOutsideLog size (WriteAt at bytes) = (at + length bytes ≤ 16384) ⊎ (4096 * (4 + size) ≤ at)
IsOutsideLog size (CopyBlock from to) = 4 + size ≤ to
IsOutsideLog size Sync = ⊤
IsOutsideLog size Nothing = ⊤

start_high : (second : Bool) → start_block second ≤ 3
start_high true = omega arith
start_high false = omega arith

start_outside : (t : TailValue) (second : Bool) (oldest : OldCommits)
    → AllByRecursion (IsOutsideLog t.log.ring) (start_work t second oldest ∷ [])
start_outside t second oldest =
    let most = start_high (not second) in
    let size = length-start_text (start_behind t oldest) in
    (inl (omega (arith, most, size)), tt)

copy_outside : (t : TailValue) (o : Option (ℕ × Newest)) → MayStep t o
    → AllByRecursion (IsOutsideLog t.log.ring) (copy_work o ∷ [])
copy_outside t None may = (tt, tt)
copy_outside t (Some copy) may = let low = may.is_home.low in (omega (arith, low), tt)

pub step_outside : (s : StoreValue) (stage : HomeStage) → MayStepBy s stage
    → AllByRecursion (IsOutsideLog s.tail.log.ring) (step_works s stage)
step_outside s Resting may = tt
step_outside s Copying may = by (s.work.done == length s.work.homes) may
  where
    by : (moves : Bool)
        → MatchBool moves (MayMove s.tail s.work.oldest) (MayStep s.tail (next_copy s.work s.entries))
        → AllByRecursion (IsOutsideLog s.tail.log.ring) (cond moves
        (start_work s.tail s.second s.work.oldest ∷ []) (copy_work (next_copy s.work s.entries) ∷ []))
    by true may = start_outside s.tail s.second s.work.oldest
    by false may = copy_outside s.tail (next_copy s.work s.entries) may
step_outside s Written may = (tt, tt)
step_outside s Sure may = (inl (omega arith), (tt, tt))

-- ---- what they leave

module _ (t : TailValue) where
  ended_torn : (at n : ℕ) (old new : List ℕ) → (at + n ≤ 16384) ⊎ (4096 * (4 + t.log.ring) ≤ at) → Torn at n old new
      → EndsAtTail t old → EndsAtTail t new
  ended_torn at n old new outside torn =
      ended_same t old new (λ b least most. same_block new old b torn.same_length (λ j small. elim outside [
        | inl low ↦ torn_after torn (4096 * b + j) (omega (arith, low))
        | inr high ↦ torn_before torn (4096 * b + j) (omega (arith, high))
      ]))

  ended_by : (work : Work) (lists : List ℕ → Type 0) → IsOutsideLog t.log.ring work
      → ((c : List ℕ) → lists c → EndsAtTail t c) → (c : List ℕ) → TornFromWork work lists c → EndsAtTail t c
  ended_by (WriteAt at bytes) lists outside ends c from =
      ended_torn at (length bytes) from.0 c outside from.2 (ends from.0 from.1)
  ended_by (CopyBlock source to) lists outside ends c from =
      ended_torn (4096 * to) 4096 from.0 c (inr (omega (arith, outside))) from.2 (ends from.0 from.1)
  ended_by Sync lists outside ends c from = ends c from
  ended_by Nothing lists outside ends c from = ends c from

pub ended_stays : {D : Type 0} (disk : Ghosts D)
    → ((device : D) (c : List ℕ) → disk.left_since device (disk.moment device) c → disk.may_leave device c)
    → (t : TailValue) (works : List Work) (done : Bool) (old new : D)
    → AllByRecursion (IsOutsideLog t.log.ring) works
    → ((c : List ℕ) → disk.may_leave old c → EndsAtTail t c) → DidAll disk old works done new
    → Stays disk (EndsAtTail t) old new
ended_stays disk since_now t works done old new outside ends did =
    all_stay disk since_now (EndsAtTail t) (IsOutsideLog t.log.ring) (ended_by t) works done old new outside ends did
