-- Reading the commit at a position of the log.
use Rattle.std.specs.Prelude.{◌≡◌, ℕ, ◌+◌, ◌≤◌, List, length, Option, Some, None}
use Rattle.page_entry.specs.declared.refusal.Refusal.{Refusal}
use Rattle.page_entry.specs.declared.refusal.Refusal.TheVariants.{Device, OutOfMemory, Damaged}
use Rattle.log_codec.specs.declared.broken.Broken.{Broken}
use Rattle.log_codec.specs.declared.broken.Broken.TheVariants.{OutOfMemory as OutOfMemory'}
use Rattle.log_codec.specs.Log.{LogValue, ring_bytes, log_descriptor_blocks, log_commit_blocks}
use Rattle.log_codec.specs.Commit.{LogDescriptor, IsLogged, IsLogDescriptor}
use Rattle.log_codec.specs.Chain.{IsNextCommit, LogEndsAt, IsChain, spare_blocks}
use Rattle.log_recovery.specs.declared.found.FoundCommit.{FoundCommit}
use Rattle.log_recovery.specs.declared.found.FoundLog.{FoundLog}
use Rattle.log_recovery.specs.Reading.{logged_of, chain_of}

-- The commit was found at position `p`, with number `n`, and fits the `left` remaining blocks.
pub record IsPlacedCommit {Z : Type 0} (g : LogValue) (p n left : ℕ) (commit : FoundCommit Z) : Type 0 where
  pub position : commit.position ≡ p
  pub number : commit.number ≡ n
  pub head : commit.head ≡ log_descriptor_blocks (length commit.homes.items)
  pub logged : IsLogged g (logged_of commit)
  pub room : log_commit_blocks (length commit.homes.items) + spare_blocks g.sealing ≤ left

-- These bytes contain its descriptor there.
abbrev pub IsDescribedAt : {Z : Type 0} → LogValue → ℕ → FoundCommit Z → List ℕ → Type 0
IsDescribedAt g p commit bytes =
    IsLogDescriptor g (logged_of commit) (ring_bytes g.ring bytes p (log_descriptor_blocks (length commit.homes.items)))

-- Why the head of the next commit is refused. Damaged: in no epoch does the next commit lie at this position.
abbrev pub RefusesHead : LogValue → ℕ → ℕ → ℕ → List ℕ → Refusal → Type 0
RefusesHead g p number left bytes Damaged =
    (epoch : ℕ) (d : LogDescriptor) → IsNextCommit g epoch p number left d bytes → ⊥
RefusesHead g p number left bytes Device = Unit {0}
RefusesHead g p number left bytes OutOfMemory = Unit {0}
RefusesHead g p number left bytes _ = ⊥

-- The refusal of a log with a descriptor that breaks this rule.
abbrev pub refusal_by : Broken → Refusal
refusal_by OutOfMemory' = OutOfMemory
refusal_by _ = Damaged

-- The finding at a position: the next commit, or the end of the log.
abbrev pub FindsNext : {Z : Type 0} → LogValue → ℕ → ℕ → ℕ → ℕ → List ℕ → Option (FoundCommit Z) → Type 0
FindsNext g epoch p number left bytes (Some commit) = IsNextCommit g epoch p number left (logged_of commit) bytes
FindsNext g epoch p number left bytes None = LogEndsAt g.sealing g epoch p number left bytes

-- Why the search at a position fails. Damaged: no chain begins there.
abbrev pub RefusesNext : LogValue → ℕ → ℕ → ℕ → ℕ → List ℕ → Refusal → Type 0
RefusesNext g epoch p number left bytes Damaged =
    (ds : List LogDescriptor) → IsChain g epoch p number left ds bytes → ⊥
RefusesNext g epoch p number left bytes Device = Unit {0}
RefusesNext g epoch p number left bytes OutOfMemory = Unit {0}
RefusesNext g epoch p number left bytes _ = ⊥

-- The found commits are the chain from their start on.
abbrev pub HoldsChain : {Z : Type 0} → LogValue → FoundLog Z → List ℕ → Type 0
HoldsChain g found bytes =
    IsChain g found.start.epoch found.start.position found.start.number g.ring (chain_of found.commits.items) bytes
