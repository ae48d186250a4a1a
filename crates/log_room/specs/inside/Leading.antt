-- What private calls do to a pager over a log.
use Rattle.std.specs.Prelude.{⊤, ◌≤◌, ◌+◌, ◌≡◌, ◌≢◌, ◌↔◌, ◌⊎◌, ℕ, List, [], length, Result, Ok, OnOk, IfErr}
use Rattle.device.specs.declared.device.Device.{Ghosts}
use Rattle.device.specs.Device.{LeavesOnly, Only}
use Rattle.volume_codec.specs.Layout.{block_at}
use Rattle.log_codec.specs.declared.sealing.Sealing.TheVariants.{ByByte}
use Rattle.log_codec.specs.Chain.{LogRecovers}
use Rattle.log_commits.specs.Tail.{EndsAtTail, HoldsUpTo}
use Rattle.log_commits.specs.declared.behind.MoveFault.TheVariants as moves
use Rattle.log_commits.specs.declared.fault.CommitFault.TheVariants as commits
use Rattle.log_recovery.specs.Reading.{ReadsAlone}
use Rattle.log_store.specs.declared.fault.StoreFault.TheVariants.{Commit, Move}
use Rattle.log_pager.specs.declared.fault.PagerFault.{PagerFault}
use Rattle.log_pager.specs.declared.fault.PagerFault.TheVariants.{Store}
use Rattle.log_pager.specs.Pager.{LogPagerValue, IsPagerOver, contents_put}
use Rattle.log_room.specs.Room.{IsEnded, KeepsFirst, commits_of}

-- The device is honest, and the pager agrees with it.
pub record IsHonestOver {D : Type 0} (disk : Ghosts D) (s : LogPagerValue D) (contents : ℕ → List ℕ) : Type 0 where
  pub honest : disk.is_honest s.device
  pub over : IsPagerOver disk s contents

-- Calls lead from the state `old` of a pager to the state `new`. The last of them may have failed.
pub record Leads {D : Type 0} (disk : Ghosts D) (old new : LogPagerValue D) : Type 0 where
  pub log : new.store.tail.log ≡ old.store.tail.log
  pub len : length (disk.seen new.device) ≡ length (disk.seen old.device)
  pub honest : disk.is_honest new.device ↔ disk.is_honest old.device
  pub later : disk.moment old.device ≤ disk.moment new.device
  -- A crash leaves all commits made before.
  pub held : (contents : ℕ → List ℕ) → IsHonestOver disk old contents
      → LeavesOnly disk.moment disk.left_since old.device new.device
      (HoldsUpTo old.store.tail.log old.store.tail.number contents)
  -- If a byte seals commits, a crash leaves the contents without the staged blocks, or with all of them.
  pub leaves : (contents : ℕ → List ℕ) → IsHonestOver disk old contents → old.store.tail.log.sealing ≡ ByByte
      → LeavesOnly disk.moment disk.left_since old.device new.device
      (λ c. LogRecovers old.store.tail.log contents c
      ⊎ LogRecovers old.store.tail.log (contents_put contents old.staged) c)
  pub first : (text : List ℕ) → ((c : List ℕ) → disk.may_leave old.device c → block_at c 0 ≡ text)
      → KeepsFirst disk text old.device new.device

-- The pager agrees with its device, with the same contents.
abbrev pub KeepsContents : {D : Type 0} → Ghosts D → LogPagerValue D → LogPagerValue D → Type 0
KeepsContents disk old new =
    (contents : ℕ → List ℕ) → IsHonestOver disk old contents → IsPagerOver disk new contents

-- The pager agrees with its device, with the staged blocks in the contents.
abbrev pub PutsContents : {D : Type 0} → Ghosts D → LogPagerValue D → LogPagerValue D → Type 0
PutsContents disk old new =
    (contents : ℕ → List ℕ) → IsHonestOver disk old contents
    → IsPagerOver disk new (contents_put contents old.staged)

-- The pager agrees with its device, with the same contents, unless a device call failed.
abbrev pub StaysOver : {D : Type 0} → Ghosts D → LogPagerValue D → LogPagerValue D → PagerFault → Type 0
StaysOver disk old new fault =
    fault ≢ Store (Commit commits.Device) → fault ≢ Store (Move moves.Device) → KeepsContents disk old new

-- No commit was made. If the log ended at the tail before, it still does.
pub record KeepsEnd {D : Type 0} (disk : Ghosts D) (old new : LogPagerValue D) : Type 0 where
  pub number : new.store.tail.number ≡ old.store.tail.number
  pub ends : IsEnded disk old → IsEnded disk new

-- The same as `KeepsEnd`, unless a commit's device call failed.
abbrev pub KeepsEndBy : {D : Type 0} → Ghosts D → LogPagerValue D → LogPagerValue D → PagerFault → Type 0
KeepsEndBy disk old new fault = fault ≢ Store (Commit commits.Device) → KeepsEnd disk old new

-- Steps were made, or calls that changed nothing.
pub record HasStepped {D : Type 0} (disk : Ghosts D) (old new : LogPagerValue D) : Type 0 where
  pub leads : Leads disk old new
  pub staged : new.staged ≡ old.staged
  pub end : KeepsEnd disk old new
  pub keeps : KeepsContents disk old new

-- A call that makes steps.
pub record MakesSteps {D X : Type 0} (disk : Ghosts D) (old : LogPagerValue D) (result : Result X PagerFault)
    (new : LogPagerValue D) : Type 0 where
  pub leads : Leads disk old new
  pub staged : new.staged ≡ old.staged
  pub end : KeepsEnd disk old new
  pub keeps : OnOk result (KeepsContents disk old new)
  pub stays : IfErr result (StaysOver disk old new)

-- The call only reads. If it succeeds, the log ends at the tail. If a byte seals commits, it reads nothing and
-- succeeds.
pub record ChecksEnd {D : Type 0} (disk : Ghosts D) (old : LogPagerValue D) (result : Result ⊤ PagerFault)
    (new : LogPagerValue D) : Type 0 where
  pub state : new ≡ record old { device = new.device }
  pub byte : old.store.tail.log.sealing ≡ ByByte → (result ≡ Ok tt) × (new ≡ old)
  pub read : ReadsAlone disk old.device new.device
  pub len : length (disk.seen new.device) ≡ length (disk.seen old.device)
  pub ends : disk.is_honest old.device → OnOk result (EndsAtTail old.store.tail (disk.seen old.device))
  pub failed : IfErr result (λ fault. fault ≡ Store (Commit commits.Device))

-- A call that commits the staged blocks.
pub record Commits {D : Type 0} (disk : Ghosts D) (old : LogPagerValue D) (result : Result ⊤ PagerFault)
    (new : LogPagerValue D) : Type 0 where
  pub leads : Leads disk old new
  pub value : OnOk result (new.staged ≡ [])
  -- If a byte seals commits, the blocks remain staged even if a commit's device call failed.
  pub kept : IfErr result (λ fault. (fault ≢ Store (Commit commits.Device)) ⊎ (old.store.tail.log.sealing ≡ ByByte)
      → new.staged ≡ old.staged)
  pub puts : OnOk result (PutsContents disk old new)
  pub numbers : OnOk result (new.store.tail.number ≡ old.store.tail.number + commits_of old.staged)
  pub ends : OnOk result ((contents : ℕ → List ℕ) → IsHonestOver disk old contents → IsEnded disk old
      → IsEnded disk new)
  pub stays : IfErr result (StaysOver disk old new)
  pub end : IfErr result (KeepsEndBy disk old new)

-- A commit of staged blocks, before the end of the log is read.
pub record CommitsPut {D : Type 0} (disk : Ghosts D) (old : LogPagerValue D) (result : Result ⊤ PagerFault)
    (new : LogPagerValue D) : Type 0 where
  pub leads : Leads disk old new
  pub some : old.staged ≢ []
  pub value : OnOk result (new.staged ≡ [])
  pub kept : IfErr result (λ fault. new.staged ≡ old.staged)
  pub puts : OnOk result (PutsContents disk old new)
  pub number : OnOk result (new.store.tail.number ≡ old.store.tail.number + 1)
  pub sure : OnOk result ((contents : ℕ → List ℕ) → IsHonestOver disk old contents
      → Only (disk.may_leave new.device) (disk.seen new.device))
  pub stays : IfErr result (StaysOver disk old new)
  pub end : IfErr result (KeepsEndBy disk old new)
