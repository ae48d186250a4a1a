-- The invariant of a disk over a volume with a log.
use Rattle.std.specs.Prelude.{⊤, ◌≡◌, ℕ, ◌+◌, ◌*◌, ◌≤◌, ◌↔◌, MatchBool, Bool, false, List, [], ◌∷◌, ◌++◌, length}
use Rattle.std.specs.List.{AllByRecursion}
use Rattle.device.specs.declared.device.Device.{Ghosts}
use Rattle.device.specs.Memory.{DiskChange, Recorded, content_after, left_since_of, moment_of, seen_of}
use Rattle.device.specs.inside.Replay.{AreWithin}
use Rattle.volume_codec.specs.Layout.{block_at}
use Rattle.volume_codec.specs.Super.{SuperValue, block_count, geometry_of}
use Rattle.volume_codec.specs.Recovery.{Batch, IsOpenBatch, Recovers}
use Rattle.journal.specs.Recovered.{RecoversBy}
use Rattle.machine_log.specs.Shown.{ShownValue, HasShown}
use Rattle.log_codec.specs.declared.sealing.Sealing.TheVariants.{ByByte}
use Rattle.log_codec.specs.declared.start.LogStart.{LogStart}
use Rattle.log_codec.specs.Chain.{LogRecovers}
use Rattle.log_volume.specs.Super.{LogSuperValue, FitsLog, log_of, log_super_text}
use Rattle.log_commits.specs.Tail.{HoldsUpTo}
use Rattle.log_commits.specs.Commit.{committed_to}
use Rattle.log_pager.specs.Pager.{LogPagerValue, IsPagerOver}
use Rattle.log_room.specs.Room.{IsEnded}
use Rattle.machine_log.specs.Serving.{IsShownTable, volume_home}
use Rattle.machine_log.specs.Disk.{LogDiskValue}
use Rattle.machine_log.specs.Made.{batch_homes, batch_records, gate_write, gates_opened, opens_gate}

-- The contents of the volume as the disk shows them.
abbrev pub shown_contents : LogSuperValue → SuperValue → (ℕ → List ℕ) → ℕ → List ℕ
shown_contents v t contents b = contents (volume_home v t b)

-- The bytes `c` of the device and `w` of the disk recover to the same contents.
pub record RecoverAlike (v : LogSuperValue) (t : SuperValue) (c w : List ℕ) : Type 0 where
  pub contents : ℕ → List ℕ
  pub first : block_at c 0 ≡ log_super_text v
  pub volume : LogRecovers (log_of v) contents c
  pub disk : Recovers t (shown_contents v t contents) w

-- The following holds for each pair of moments so far. Let a crash of the device since its moment leave `c`. Then a
-- crash of the disk since its moment might have left some `w`, so that `R` holds of the disk's moment, `c` and `w`.
abbrev pub AreBackedBy : {D : Type 0} → (ℕ → List ℕ → List ℕ → Type 0) → Ghosts D → D → Recorded → List (ℕ × ℕ)
    → Type 0
AreBackedBy R disk device memory moments = AllByRecursion (λ m. (c : List ℕ) → disk.left_since device m.1 c
    → (w : List ℕ) × left_since_of memory m.0 w × R m.0 c w) moments

-- The same, for lists that recover alike.
abbrev pub AreBacked : {D : Type 0} → Ghosts D → D → LogSuperValue → SuperValue → Recorded → List (ℕ × ℕ) → Type 0
AreBacked disk device v t memory moments = AreBackedBy (λ u c w. RecoverAlike v t c w) disk device memory moments

-- The disk had the bytes `w` after its older changes, at `moment` or later, or just before it. `c` contain the commits
-- that the disk had made by then, with the contents that `w` recover to.
pub record IsHeld (v : LogSuperValue) (t : SuperValue) (start : LogStart) (first : List ℕ) (changes : List DiskChange)
    (moment : ℕ) (c w : List ℕ) : Type 0 where
  pub newer : List DiskChange
  pub older : List DiskChange
  pub parts : changes ≡ newer ++ older
  pub late : moment ≤ length older + 1
  pub seen : w ≡ content_after first older
  pub contents : ℕ → List ℕ
  pub text : block_at c 0 ≡ log_super_text v
  pub recovers : Recovers t (shown_contents v t contents) w
  pub holds : HoldsUpTo (log_of v) (start.number + gates_opened older) contents c

-- A write opened the gate of a batch. Then the bytes recover to the contents with the batch's records.
pub record OpensGate (v : LogSuperValue) (t : SuperValue) (first : List ℕ) (change : DiskChange)
    (older : List DiskChange) : Type 0 where
  pub batch : Batch
  pub change_is : change ≡ gate_write t batch
  pub says : IsOpenBatch (geometry_of t) (content_after first (change ∷ older)) batch
  pub recovers : (contents : ℕ → List ℕ) → Recovers t (shown_contents v t contents) (content_after first older)
      → Recovers t (shown_contents v t (committed_to contents (batch_homes v t batch)
      (batch_records t batch (content_after first (change ∷ older))))) (content_after first (change ∷ older))

-- Another change doesn't change the contents.
abbrev pub StaysAlike : LogSuperValue → SuperValue → List ℕ → DiskChange → List DiskChange → Type 0
StaysAlike v t first change older =
    (contents : ℕ → List ℕ) → Recovers t (shown_contents v t contents) (content_after first older)
    → Recovers t (shown_contents v t contents) (content_after first (change ∷ older))

abbrev pub AreFollowed : LogSuperValue → SuperValue → List ℕ → List DiskChange → Type 0
AreFollowed v t first [] = ⊤
AreFollowed v t first (change ∷ older) =
    MatchBool (opens_gate change) (OpensGate v t first change older) (StaysAlike v t first change older)
    × AreFollowed v t first older

-- The newest pair of moments is `(u, r)`, and no other pair has a later moment.
pub record AreMoments (u r : ℕ) (moments : List (ℕ × ℕ)) : Type 0 where
  pub older : List (ℕ × ℕ)
  pub newest : moments ≡ (u, r) ∷ older
  pub each : AllByRecursion (λ m. (m.0 ≤ u) × (m.1 ≤ r)) older

-- A disk in memory that first had the bytes `first`, then recorded these writes and syncs.
abbrev pub changed : List ℕ → List DiskChange → Recorded
changed first changes = record { first = first; changes = changes; start = 0; calls = 0; faults = 0 }

-- The log of the device ends at the pager's tail and has the contents that the disk shows, and the device has the super
-- block of the volume.
pub record IsOverLog {D : Type 0} (disk : Ghosts D) (v : LogSuperValue) (t : SuperValue) (pager : LogPagerValue D)
    (shown : ShownValue) (seen : List ℕ) : Type 0 where
  pub contents : ℕ → List ℕ
  pub over : IsPagerOver disk pager contents
  pub ended : IsEnded disk pager
  pub first : (c : List ℕ) → disk.may_leave pager.device c → block_at c 0 ≡ log_super_text v
  pub recovers : RecoversBy t shown.opened (shown_contents v t contents) seen

-- The device is honest, and a byte seals commits.
abbrev pub IsHonestBelow : {D : Type 0} → Ghosts D → LogSuperValue → LogPagerValue D → Type 0
IsHonestBelow disk v pager = disk.is_honest pager.device × (v.sealing ≡ ByByte)

-- The invariant of a disk. Until it fails, its users see the volume that it keeps, and no record is put without a
-- commit. Once it has failed, it takes no further call.
pub record IsKeptDisk {D : Type 0} (disk : Ghosts D) (v : LogSuperValue) (t : SuperValue) (start : LogStart)
    (first : List ℕ) (changes : List DiskChange) (moments : List (ℕ × ℕ)) (pager : LogPagerValue D) (shown : ShownValue)
    (failed : Bool) : Type 0 where
  pub fits : FitsLog v
  pub table : IsShownTable v t
  pub log : pager.store.tail.log ≡ log_of v
  pub number : failed ≡ false → pager.store.tail.number ≡ start.number + gates_opened changes
  pub long : length first ≡ 4096 * block_count t
  pub within : AreWithin (length first) changes
  pub moments_are : AreMoments (moment_of (changed first changes)) (disk.moment pager.device) moments
  pub shows : failed ≡ false → HasShown t shown (seen_of (changed first changes))
  pub none_put : failed ≡ false → pager.staged ≡ []
  pub over : disk.is_honest pager.device → failed ≡ false
      → IsOverLog disk v t pager shown (seen_of (changed first changes))
  pub backed : IsHonestBelow disk v pager → AreBacked disk pager.device v t (changed first changes) moments
  pub followed : AreFollowed v t first changes
  pub held : disk.is_honest pager.device
      → AreBackedBy (IsHeld v t start first changes) disk pager.device (changed first changes) moments

-- ---- what calls do

-- The device was called only in ways that the disk's users can't see.
pub record ReadsOn {D : Type 0} (disk : Ghosts D) (old new : LogDiskValue D) : Type 0 where
  pub memory : new.memory ≡ old.memory
  pub volume : new.volume ≡ old.volume
  pub table : new.table ≡ old.table
  pub log_start : new.log_start ≡ old.log_start
  pub moments : new.moments ≡ (moment_of old.memory, disk.moment new.device) ∷ old.moments
  pub later : disk.moment old.device ≤ disk.moment new.device
  pub honest : disk.is_honest new.device ↔ disk.is_honest old.device

-- The disk recorded one more write or sync.
pub record WritesOn {D : Type 0} (disk : Ghosts D) (old : LogDiskValue D) (change : DiskChange)
    (new : LogDiskValue D) : Type 0 where
  pub memory : new.memory ≡ record old.memory { changes = change ∷ old.memory.changes }
  pub volume : new.volume ≡ old.volume
  pub table : new.table ≡ old.table
  pub log_start : new.log_start ≡ old.log_start
  pub moments : new.moments ≡ (moment_of new.memory, disk.moment new.device) ∷ old.moments
  pub later : disk.moment old.device ≤ disk.moment new.device
  pub honest : disk.is_honest new.device ↔ disk.is_honest old.device

-- The disk with these numbers of its calls and of its failed calls.
abbrev pub with_counts : {D : Type 0} → LogDiskValue D → ℕ → ℕ → LogDiskValue D
with_counts disk calls faults = record disk { memory = record disk.memory { calls = calls; faults = faults } }
