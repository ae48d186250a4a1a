-- What the opening of a volume with a log does to its device.
use Rattle.std.specs.Prelude.{◌≡◌, ◌↔◌, ◌⊎◌, ℕ, ◌+◌, ◌*◌, ◌%◌, ◌<◌, ◌^◌, List, [], length, drop, Result, Ok, Err}
use Rattle.device.specs.declared.device.Device.{Ghosts}
use Rattle.device.specs.Device.{LeavesOnly, Only}
use Rattle.page_entry.specs.declared.refusal.Refusal.{Refusal}
use Rattle.page_entry.specs.declared.refusal.Refusal.TheVariants.{Device, OutOfMemory, NotAVolume, Damaged, Busy}
use Rattle.volume_codec.specs.Layout.{block_at}
use Rattle.log_codec.specs.declared.start.LogStart.{LogStart}
use Rattle.log_codec.specs.Log.{LogValue}
use Rattle.log_codec.specs.Commit.{LogDescriptor}
use Rattle.log_codec.specs.Chain.{HasLog, LogEndsAt, LogRecovers, IsDamagedLog, chain_end}

-- In this epoch the log would end after these commits: no further commit follows.
abbrev pub EndsInEpoch : LogValue → LogStart → List LogDescriptor → ℕ → List ℕ → Type 0
EndsInEpoch g s chain epoch bytes =
    LogEndsAt g.sealing g epoch (chain_end s.position chain % g.ring) (s.number + length chain) g.ring bytes

-- The start after all commits of a log, in the first later epoch in which the log ends there.
pub record IsNextStart (g : LogValue) (s : LogStart) (chain : List LogDescriptor) (bytes : List ℕ) (next : LogStart)
    : Type 0 where
  pub position_is : next.position ≡ chain_end s.position chain % g.ring
  pub number_is : next.number ≡ s.number + length chain
  pub later : s.epoch < next.epoch
  pub ends : EndsInEpoch g s chain next.epoch bytes
  pub first : (epoch : ℕ) → s.epoch < epoch → epoch < next.epoch → EndsInEpoch g s chain epoch bytes → ⊥

-- `new` has the length and the super block of `old`, and the same bytes past the volume.
pub record SameAround (g : LogValue) (old new : List ℕ) : Type 0 where
  pub same_length : length new ≡ length old
  pub super_block : block_at new 0 ≡ block_at old 0
  pub past : drop (4096 * g.blocks) new ≡ drop (4096 * g.blocks) old

-- `old` and `new` recover to the same contents. They have the same length, super block, and bytes past the volume.
pub record RecoversAlike (g : LogValue) (old new : List ℕ) : Type 0 where
  pub contents : ℕ → List ℕ
  pub was : LogRecovers g contents old
  pub is : LogRecovers g contents new
  pub around : SameAround g old new

-- What a crash leaves during an opening: what it might have left before, or bytes that recover to the same contents as
-- the bytes read before.
abbrev pub LeftByLogOpening : {D : Type 0} → Ghosts D → LogValue → D → List ℕ → Type 0
LeftByLogOpening disk g old c = disk.may_leave old c ⊎ RecoversAlike g (disk.seen old) c

-- A device was opened. Its log has no commit and has this start. Its home blocks have the recovered contents. All of it
-- is synced.
pub record OpensLog {D : Type 0} (disk : Ghosts D) (g : LogValue) (old : D) (next : LogStart) (new : D) : Type 0 where
  pub start : LogStart
  pub chain : List LogDescriptor
  pub held : HasLog g start chain (disk.seen old)
  pub next_is : IsNextStart g start chain (disk.seen old) next
  pub log : HasLog g next [] (disk.seen new)
  pub recovers : LogRecovers g (block_at (disk.seen new)) (disk.seen old)
  pub around : SameAround g (disk.seen old) (disk.seen new)
  pub synced : Only (disk.may_leave new) (disk.seen new)

-- Why an opening of a device with these bytes fails. Either the bytes contain no log, or no epoch is left, or, whatever
-- the bytes, a device call fails or memory is refused.
abbrev pub RefusesLogOpening : LogValue → List ℕ → Refusal → Type 0
RefusesLogOpening g bytes Damaged = IsDamagedLog g bytes
RefusesLogOpening g bytes Busy = (s : LogStart) × (chain : List LogDescriptor) × HasLog g s chain bytes
    × ((epoch : ℕ) → s.epoch < epoch → epoch < 2 ^ 64 → EndsInEpoch g s chain epoch bytes → ⊥)
RefusesLogOpening g bytes Device = Unit {0}
RefusesLogOpening g bytes OutOfMemory = Unit {0}
RefusesLogOpening g bytes _ = ⊥

-- At no moment was anything written.
pub record HasWrittenNothing {D : Type 0} (disk : Ghosts D) (old new : D) : Type 0 where
  pub same : disk.is_honest old → disk.seen new ≡ disk.seen old
  pub left : (c : List ℕ) → disk.may_leave new c → disk.may_leave old c
  pub time : LeavesOnly disk.moment disk.left_since old new (disk.may_leave old)

-- The failed calls, by the refusal: one if the refusal is Device, and none for the other refusals of openings.
abbrev pub FailedBy : ℕ → ℕ → Refusal → Type 0
FailedBy old new Device = old + 1 < 2 ^ 64 → new ≡ old + 1
FailedBy old new OutOfMemory = new ≡ old
FailedBy old new Damaged = new ≡ old
FailedBy old new Busy = new ≡ old
FailedBy old new NotAVolume = new ≡ old
FailedBy old new _ = ⊥

-- The number of failed calls, by the result.
abbrev pub HasFaults : {X : Type 0} → ℕ → ℕ → Result X Refusal → Type 0
HasFaults old new (Ok x) = new ≡ old
HasFaults old new (Err refusal) = FailedBy old new refusal

-- The device is as long and as honest as before, and the number of its failed calls fits the result.
pub record IsCounted {D X : Type 0} (disk : Ghosts D) (old : D) (result : Result X Refusal) (new : D) : Type 0 where
  pub honest : disk.is_honest new ↔ disk.is_honest old
  pub same_length : length (disk.seen new) ≡ length (disk.seen old)
  pub carried : disk.carried new ≡ disk.carried old
  pub faults : HasFaults (disk.faults_met old) (disk.faults_met new) result
