-- Commits and steps write no byte of the first block of a volume.
use Rattle.std.proofs.Common.{◌≡◌, ℕ, ◌+◌, ◌-◌, ◌*◌, ◌%◌, ◌≤◌, ◌==◌, Bool, true, false, List, [], ◌∷◌, ◌++◌, length}
use Rattle.std.proofs.Common.{take, cond, drop, ap, sym, ◌∙◌, arith}
use Rattle.std.specs.Prelude.{⊤, Option, Some, None, MatchBool, nat_le, not, slice_range}
use Rattle.std.proofs.lemmas.List.{take-take}
use Rattle.std.specs.List.{AllByRecursion}
use Rattle.device.specs.Device.{Torn}
use Rattle.device.specs.Work.{Work, WriteAt, CopyBlock, Sync, Nothing, TornFromWork}
use Rattle.device.specs.declared.device.Device.{Ghosts}
use Rattle.volume_codec.specs.Layout.{block_at}
use Rattle.log_codec.specs.declared.sealing.Sealing.{Sealing}
use Rattle.log_codec.specs.declared.sealing.Sealing.TheVariants.{ByByte, ByDigest}
use Rattle.log_codec.specs.Log.{ring_block}
use Rattle.log_codec.specs.Start.{start_block}
use Rattle.log_commits.specs.declared.behind.OldCommits.{OldCommits}
use Rattle.log_commits.specs.Behind.{MayMove, select_works, start_work}
use Rattle.log_commits.specs.Calls.{DidAll}
use Rattle.log_commits.specs.Commit.{commit_bytes, works_with}
use Rattle.log_commits.specs.Ring.{ring_works}
use Rattle.log_commits.specs.Tail.{TailValue}
use Rattle.log_home.specs.Work.{MayStep, copy_work, next_copy}
use Rattle.log_home.specs.declared.index.Newest.{Newest}
use Rattle.log_store.specs.declared.stage.HomeStage.{HomeStage}
use Rattle.log_store.specs.declared.stage.HomeStage.TheVariants.{Resting, Copying, Written, Sure}
use Rattle.log_store.specs.Store.{StoreValue, MayStepBy, selection, step_works, store_commit_works, works_selecting}
use Rattle.log_store.proofs.Staying.{Stays, all_stay}

-- the work writes none of the first 4096 bytes
abbrev pub IsBehind : Work → Type 0
IsBehind (WriteAt at bytes) = 4096 ≤ at
IsBehind (CopyBlock from to) = 1 ≤ to
IsBehind Sync = ⊤
IsBehind Nothing = ⊤

abbrev pub AreBehind : List Work → Type 0
AreBehind = AllByRecursion IsBehind

behind_append : (first second : List Work) → AreBehind first → AreBehind second → AreBehind (first ++ second)
behind_append [] second is more = more
behind_append (work ∷ first) second is more = (is.0, behind_append first second is.1 more)

-- ---- the works of commits

ring_behind : (ring p from : ℕ) (bytes : List ℕ) → AreBehind (ring_works ring p from bytes)
ring_behind ring p from bytes =
    by (4096 * ring_block ring p + from) (4096 * (ring - p % ring)) (nat_le (length bytes) (4096 * (ring - p % ring)))
    (omega arith)
  where
    by : (at ahead : ℕ) (one : Bool) → 4096 ≤ at → AreBehind (cond one (WriteAt at (drop from bytes) ∷ [])
        (WriteAt at (slice_range bytes from ahead) ∷ WriteAt 16384 (drop ahead bytes) ∷ []))
    by at ahead true low = (low, tt)
    by at ahead false low = (low, (omega arith, tt))

works_behind : (sealing : Sealing) (ring p : ℕ) (bytes : List ℕ) (last : List Work) → AreBehind last
    → AreBehind (works_with sealing ring p bytes last)
works_behind ByByte ring p bytes last is =
    behind_append (ring_works ring p 1 (bytes ++ 0 ∷ []))
    (Sync ∷ WriteAt (4096 * ring_block ring p) (0xA7 ∷ []) ∷ last) (ring_behind ring p 1 (bytes ++ 0 ∷ []))
    (tt, (omega arith, is))
works_behind (ByDigest key) ring p bytes last is =
    behind_append (ring_works ring p 0 bytes) last (ring_behind ring p 0 bytes) is

pub commit_behind : (s : StoreValue) (homes records : List ℕ) → AreBehind (store_commit_works s homes records)
commit_behind s homes records = by (selection s)
  where
    t : TailValue
    t = s.tail

    by : (o : Option OldCommits) → AreBehind (works_selecting t s.second o homes records)
    by None =
        works_behind t.log.sealing t.log.ring t.position (commit_bytes t homes records) (Sync ∷ []) (tt, tt)
    by (Some oldest) =
        works_behind t.log.sealing t.log.ring t.position (commit_bytes t homes records) (select_works s.second)
        (omega arith, (tt, tt))

-- ---- those of steps

start_first : (second : Bool) → 2 ≤ start_block second
start_first true = omega arith
start_first false = omega arith

start_behind_first : (t : TailValue) (second : Bool) (oldest : OldCommits)
    → AreBehind (start_work t second oldest ∷ [])
start_behind_first t second oldest = let low = start_first (not second) in (omega (arith, low), tt)

copy_behind : (t : TailValue) (o : Option (ℕ × Newest)) → MayStep t o → AreBehind (copy_work o ∷ [])
copy_behind t None may = (tt, tt)
copy_behind t (Some copy) may = let low = may.is_home.low in (omega (arith, low), tt)

pub step_behind : (s : StoreValue) (stage : HomeStage) → MayStepBy s stage → AreBehind (step_works s stage)
step_behind s Resting may = tt
step_behind s Copying may = by (s.work.done == length s.work.homes) may
  where
    by : (moves : Bool)
        → MatchBool moves (MayMove s.tail s.work.oldest) (MayStep s.tail (next_copy s.work s.entries))
        → AreBehind (cond moves (start_work s.tail s.second s.work.oldest ∷ [])
        (copy_work (next_copy s.work s.entries) ∷ []))
    by true may = start_behind_first s.tail s.second s.work.oldest
    by false may = copy_behind s.tail (next_copy s.work s.entries) may
step_behind s Written may = (tt, tt)
step_behind s Sure may = (omega arith, (tt, tt))

-- ---- what they leave

torn_first : (at n : ℕ) (old new : List ℕ) → 4096 ≤ at → Torn at n old new → block_at new 0 ≡ block_at old 0
torn_first at n old new low torn =
    sym (take-take 4096 at new low) ∙ ap (take 4096) torn.before ∙ take-take 4096 at old low

-- the first block has this text
abbrev pub HasFirst : List ℕ → List ℕ → Type 0
HasFirst text c = block_at c 0 ≡ text

first_torn : (text : List ℕ) (work : Work) (lists : List ℕ → Type 0) → IsBehind work
    → ((c : List ℕ) → lists c → HasFirst text c) → (c : List ℕ) → TornFromWork work lists c → HasFirst text c
first_torn text (WriteAt at bytes) lists behind has c from =
    torn_first at (length bytes) from.0 c behind from.2 ∙ has from.0 from.1
first_torn text (CopyBlock source to) lists behind has c from =
    torn_first (4096 * to) 4096 from.0 c (omega (arith, behind)) from.2 ∙ has from.0 from.1
first_torn text Sync lists behind has c from = has c from
first_torn text Nothing lists behind has c from = has c from

pub first_stays : {D : Type 0} (disk : Ghosts D)
    → ((device : D) (c : List ℕ) → disk.left_since device (disk.moment device) c → disk.may_leave device c)
    → (text : List ℕ) (works : List Work) (done : Bool) (old new : D) → AreBehind works
    → ((c : List ℕ) → disk.may_leave old c → HasFirst text c) → DidAll disk old works done new
    → Stays disk (HasFirst text) old new
first_stays disk since_now text works done old new behind has did =
    all_stay disk since_now (HasFirst text) IsBehind (first_torn text) works done old new behind has did
