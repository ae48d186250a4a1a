-- What the writes of an opening change, before its last write.
use Rattle.std.specs.Prelude.{◌≡◌, ◌≢◌, ◌↔◌, ◌⊎◌, ℕ, ◌+◌, ◌*◌, ◌<◌, ◌^◌, Bool, not, List, length, drop}
use Rattle.std.specs.Prelude.{[], ◌∷◌, Option}
use Rattle.std.specs.List.{AllByRecursion}
use Rattle.device.specs.declared.device.Device.{Ghosts}
use Rattle.device.specs.Device.{LeavesOnly, Only, written}
use Rattle.page_entry.specs.declared.refusal.Refusal.{Refusal}
use Rattle.page_entry.specs.declared.refusal.Refusal.TheVariants.{Device, OutOfMemory, Damaged, Busy}
use Rattle.volume_codec.specs.Layout.{block_at}
use Rattle.log_codec.specs.declared.sealing.Sealing.TheVariants.{ByByte}
use Rattle.log_codec.specs.declared.start.LogStart.{LogStart}
use Rattle.log_codec.specs.Log.{LogValue, first_log_home}
use Rattle.log_codec.specs.Start.{start_block, start_text, counts_second}
use Rattle.log_codec.specs.Commit.{LogDescriptor}
use Rattle.log_codec.specs.Chain.{IsLogHome, LogEndsAt, logged_or, newest_or, contents_of_log}
use Rattle.log_recovery.specs.declared.found.FoundLog.{FoundLog}
use Rattle.log_recovery.specs.Reading.{HoldsFound, chain_of}
use Rattle.log_opening.specs.Opening.{IsNextStart}
use Rattle.log_opening.specs.inside.Places.{IsYounger}

-- `new` differs from `old` only in bytes that no recovery reads: the start that does not count, and home blocks that
-- commits of the log have.
pub record KeepsLog (g : LogValue) (s : LogStart) (chain : List LogDescriptor) (second : Bool) (old new : List ℕ)
    : Type 0 where
  pub same_length : length new ≡ length old
  pub low : (b : ℕ) → b < first_log_home g.ring → b ≢ start_block (not second) → block_at new b ≡ block_at old b
  pub homes : (b : ℕ) → IsLogHome g b → newest_or g.ring b s.position chain b ≡ b → block_at new b ≡ block_at old b
  pub past : drop (4096 * g.blocks) new ≡ drop (4096 * g.blocks) old

-- Commits of the log have each of these home blocks.
abbrev pub AreLogged : LogValue → LogStart → List LogDescriptor → List ℕ → Type 0
AreLogged g s chain homes = AllByRecursion (λ b. newest_or g.ring b s.position chain b ≢ b) homes

-- The bytes are one of these lists after such changes.
abbrev pub KeptFrom : LogValue → LogStart → List LogDescriptor → Bool → (List ℕ → Type 0) → List ℕ → Type 0
KeptFrom g s chain second lists c = (d : List ℕ) × lists d × KeepsLog g s chain second d c

-- The calls make only such changes.
pub record WritesKeeping {D : Type 0} (disk : Ghosts D) (g : LogValue) (s : LogStart) (chain : List LogDescriptor)
    (second : Bool) (old new : D) : Type 0 where
  pub seen : disk.is_honest old → KeepsLog g s chain second (disk.seen old) (disk.seen new)
  pub left : (c : List ℕ) → disk.may_leave new c → KeptFrom g s chain second (disk.may_leave old) c
  pub time : LeavesOnly disk.moment disk.left_since old new (KeptFrom g s chain second (disk.may_leave old))

-- The device is as long and as honest as before.
pub record IsSameDevice {D : Type 0} (disk : Ghosts D) (old new : D) : Type 0 where
  pub honest : disk.is_honest new ↔ disk.is_honest old
  pub same_length : length (disk.seen new) ≡ length (disk.seen old)
  pub carried : disk.carried new ≡ disk.carried old

-- `new` is `old` after the records of the commit at `place`, which begin at position `p`, were copied home. A home
-- block of a younger commit may have other bytes.
pub record HasRecords (g : LogValue) (p : ℕ) (homes : List ℕ) (youngest : ℕ → Option ℕ) (place : ℕ) (old new : List ℕ)
    : Type 0 where
  pub low : (b : ℕ) → b < first_log_home g.ring → block_at new b ≡ block_at old b
  pub written : (b : ℕ) → IsLogHome g b
      → (block_at new b ≡ block_at old (logged_or g.ring b p homes b)) ⊎ IsYounger youngest (place + 1) b

-- `new` is `old` after the newest records of these commits, which begin at position `p`, were copied home. A home block
-- that a commit from `place` on has may have other bytes.
pub record HasHomesBut (g : LogValue) (p : ℕ) (chain : List LogDescriptor) (youngest : ℕ → Option ℕ) (place : ℕ)
    (old new : List ℕ) : Type 0 where
  pub low : (b : ℕ) → b < first_log_home g.ring → block_at new b ≡ block_at old b
  pub written : (b : ℕ) → IsLogHome g b
      → (block_at new b ≡ block_at old (newest_or g.ring b p chain b)) ⊎ IsYounger youngest place b

-- `new` is `old` with the newest record in each home block. The commits begin at position `p`.
pub record HasHomes (g : LogValue) (p : ℕ) (chain : List LogDescriptor) (old new : List ℕ) : Type 0 where
  pub low : (b : ℕ) → b < first_log_home g.ring → block_at new b ≡ block_at old b
  pub homes : (b : ℕ) → IsLogHome g b → block_at new b ≡ block_at old (newest_or g.ring b p chain b)

-- The home blocks have the newest records, and the start that does not count is `next`.
pub record IsReady (g : LogValue) (s : LogStart) (chain : List LogDescriptor) (second : Bool) (next : LogStart)
    (old new : List ℕ) : Type 0 where
  pub keeps : KeepsLog g s chain second old new
  pub homes : (b : ℕ) → IsLogHome g b → block_at new b ≡ contents_of_log g s.position chain old b
  pub start : block_at new (start_block (not second)) ≡ start_text next

-- The first byte of block 1 selects the start `second`, and all is synced.
pub record HasSwitched {D : Type 0} (disk : Ghosts D) (second : Bool) (old new : D) : Type 0 where
  pub byte : ℕ
  pub counts : counts_second byte ≡ second
  pub seen_is : disk.seen new ≡ written (disk.seen old) 4096 (byte ∷ [])
  pub synced : Only (disk.may_leave new) (disk.seen new)

-- Why no epoch after `last` is found in which the log has no commit with this number at position `p`.
abbrev pub RefusesEpoch : LogValue → ℕ → ℕ → ℕ → List ℕ → Refusal → Type 0
RefusesEpoch g last p number bytes Busy =
    (epoch : ℕ) → last < epoch → epoch < 2 ^ 64 → LogEndsAt g.sealing g epoch p number g.ring bytes → ⊥
RefusesEpoch g last p number bytes Damaged =
    (g.sealing ≡ ByByte) × (epoch : ℕ) × (LogEndsAt g.sealing g epoch p number g.ring bytes → ⊥)
RefusesEpoch g last p number bytes Device = Unit {0}
RefusesEpoch g last p number bytes OutOfMemory = Unit {0}
RefusesEpoch g last p number bytes _ = ⊥

-- The log on a device was found, all of it is synced, and `next` is the start after its commits.
pub record IsLookedAt {D Z : Type 0} (disk : Ghosts D) (g : LogValue) (found : FoundLog Z) (next : LogStart)
    (device : D) : Type 0 where
  pub honest : disk.is_honest device
  pub holds : HoldsFound g found (disk.seen device)
  pub next_is : IsNextStart g found.start (chain_of found.commits.items) (disk.seen device) next
  pub synced : Only (disk.may_leave device) (disk.seen device)
