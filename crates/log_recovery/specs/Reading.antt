-- What recovery reads of the log on a device: the start that counts, and the commits from there to the end.
use Rattle.std.specs.Prelude.{◌≡◌, ◌↔◌, ℕ, ◌+◌, ◌%◌, ◌<◌, ◌≤◌, ◌^◌, List, [], ◌∷◌, length, map, slice_index}
use Rattle.std.specs.Prelude.{Result, Ok, Err}
use Rattle.device.specs.Device.{LeavesOnly}
use Rattle.device.specs.declared.device.Device.{Ghosts}
use Rattle.page_entry.specs.declared.refusal.Refusal.{Refusal}
use Rattle.page_entry.specs.declared.refusal.Refusal.TheVariants.{Device, OutOfMemory, Damaged}
use Rattle.log_codec.specs.Log.{LogValue, log_descriptor_blocks}
use Rattle.log_codec.specs.Start.{IsLogStart, counts_second}
use Rattle.log_codec.specs.Commit.{LogDescriptor, IsLogged}
use Rattle.log_codec.specs.Chain.{HasLog, IsDamagedLog, position_after, chain_end, chain_blocks}
use Rattle.log_recovery.specs.declared.found.FoundCommit.{FoundCommit}
use Rattle.log_recovery.specs.declared.found.FoundLog.{FoundLog}

-- At no moment was anything written. The device is as long and as honest as before.
pub record ReadsAlone {D : Type 0} (disk : Ghosts D) (old new : D) : Type 0 where
  pub same : disk.seen new ≡ disk.seen old
  pub left : (c : List ℕ) → disk.may_leave new c → disk.may_leave old c
  pub keeps : disk.is_honest old → (c : List ℕ) → disk.may_leave old c → disk.may_leave new c
  pub time : LeavesOnly disk.moment disk.left_since old new (disk.may_leave old)
  pub honest : disk.is_honest new ↔ disk.is_honest old
  pub carried : disk.carried new ≡ disk.carried old

-- The failed calls, by the refusal: one if the refusal is Device, and none for the other refusals.
abbrev pub FailedOnce : ℕ → ℕ → Refusal → Type 0
FailedOnce old new Device = old + 1 < 2 ^ 64 → new ≡ old + 1
FailedOnce old new OutOfMemory = new ≡ old
FailedOnce old new Damaged = new ≡ old
FailedOnce old new _ = ⊥

-- The number of failed calls, by the result.
abbrev pub HasFaultsBy : {X : Type 0} → ℕ → ℕ → Result X Refusal → Type 0
HasFaultsBy old new (Ok x) = new ≡ old
HasFaultsBy old new (Err refusal) = FailedOnce old new refusal

-- The descriptor of a found commit: its number and its home blocks.
abbrev pub logged_of : {Z : Type 0} → FoundCommit Z → LogDescriptor
logged_of commit = record { number = commit.number; homes = commit.homes.items }

-- The descriptors of the found commits, in order.
abbrev pub chain_of : {Z : Type 0} → List (FoundCommit Z) → List LogDescriptor
chain_of commits = map (λ commit. logged_of commit) commits

-- Each commit is one that this log may have. From this position on, each follows directly after the one before.
abbrev pub ArePlaced : {Z : Type 0} → LogValue → ℕ → List (FoundCommit Z) → Type 0
ArePlaced g p [] = Unit {0}
ArePlaced g p (commit ∷ commits) =
    (commit.position ≡ p) × (commit.head ≡ log_descriptor_blocks (length commit.homes.items))
    × IsLogged g (logged_of commit) × ArePlaced g (position_after p (logged_of commit)) commits

-- The found log is possible in a volume with this log. It has a start, and commits that follow each other and fit the
-- ring. It also has the position and the number after them.
pub record IsFoundLog {Z : Type 0} (g : LogValue) (found : FoundLog Z) : Type 0 where
  pub start : IsLogStart g.ring found.start
  pub placed : ArePlaced g found.start.position found.commits.items
  pub room : chain_blocks (chain_of found.commits.items) ≤ g.ring
  pub end : found.end_position ≡ chain_end found.start.position (chain_of found.commits.items) % g.ring
  pub next : found.end_number ≡ found.start.number + length found.commits.items

-- These bytes contain the found log.
pub record HoldsFound {Z : Type 0} (g : LogValue) (found : FoundLog Z) (bytes : List ℕ) : Type 0 where
  pub selected : found.second ≡ counts_second (slice_index bytes 4096)
  pub log : HasLog g found.start (chain_of found.commits.items) bytes

-- Why no log is found in these bytes: they contain none, or, whatever the bytes, a device call fails or memory is
-- refused.
abbrev pub RefusesLog : LogValue → List ℕ → Refusal → Type 0
RefusesLog g bytes Damaged = IsDamagedLog g bytes
RefusesLog g bytes Device = Unit {0}
RefusesLog g bytes OutOfMemory = Unit {0}
RefusesLog g bytes _ = ⊥
