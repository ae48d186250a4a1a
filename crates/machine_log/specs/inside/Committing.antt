-- How the records of a batch are put into a pager for a commit, and what this commit leaves.
use Rattle.std.specs.Prelude.{◌≡◌, ◌≢◌, ◌⊎◌, ℕ, ◌+◌, ◌-◌, ◌<◌, ◌≤◌, ◌↔◌, Bool, true, List, [], ◌∷◌, length, Some, None}
use Rattle.std.specs.Prelude.{slice_index}
use Rattle.device.specs.declared.device.Device.{Ghosts}
use Rattle.device.specs.Device.{LeavesOnly}
use Rattle.volume_codec.specs.Layout.{block_at, record_block}
use Rattle.volume_codec.specs.Recovery.{Batch}
use Rattle.kept_blocks.specs.Blocks.{Blocks, bytes_in}
use Rattle.log_codec.specs.declared.sealing.Sealing.TheVariants.{ByByte}
use Rattle.log_codec.specs.Chain.{LogRecovers}
use Rattle.log_commits.specs.Tail.{HoldsUpTo}
use Rattle.log_pager.specs.Pager.{LogPagerValue, IsPagerOver}
use Rattle.log_room.specs.Room.{IsEnded, KeepsFirst}
use Rattle.machine_log.specs.Shown.{ShownValue, OpensShown}

-- The home block of the volume that corresponds to home block `home` of the disk. The volume's first home block is
-- `first`, and that of the disk is `low`.
abbrev pub moved_home : ℕ → ℕ → ℕ → ℕ
moved_home first low home = home - low + first

-- The first `n` records of a batch are put, and nothing else is.
pub record ArePut (shown : ShownValue) (batch : Batch) (low first n : ℕ) (put : Blocks) : Type 0 where
  pub each : (i : ℕ) → i < n → (block : List ℕ)
      × (bytes_in shown.blocks (record_block shown.geometry.slots batch.journal i) ≡ Some block)
      × (bytes_in put (moved_home first low (slice_index batch.homes i)) ≡ Some block)
  pub others : (q : ℕ) → ((i : ℕ) → i < n → q ≢ moved_home first low (slice_index batch.homes i))
      → bytes_in put q ≡ None

-- `new` is the pager `old` after the first `n` records of a batch were put. Nothing else changed.
pub record HasPutUpTo {D : Type 0} (disk : Ghosts D) (shown : ShownValue) (batch : Batch) (low first n : ℕ)
    (old new : LogPagerValue D) : Type 0 where
  pub put : ArePut shown batch low first n new.staged
  pub staged : new ≡ record old { staged = new.staged }
  pub over : (contents : ℕ → List ℕ) → IsPagerOver disk old contents → IsPagerOver disk new contents

-- The new contents of the volume are the old ones with the records of a batch.
pub record HasPut (shown : ShownValue) (batch : Batch) (low first : ℕ) (old new : ℕ → List ℕ) : Type 0 where
  pub records : (i : ℕ) → i < length batch.homes
      → bytes_in shown.blocks (record_block shown.geometry.slots batch.journal i)
      ≡ Some (new (moved_home first low (slice_index batch.homes i)))
  pub others : (q : ℕ) → ((i : ℕ) → i < length batch.homes → q ≢ moved_home first low (slice_index batch.homes i))
      → new q ≡ old q

-- the volume with the gate of a batch open
abbrev pub with_batch : ShownValue → Batch → ShownValue
with_batch shown batch = record shown { opened = batch ∷ shown.opened }

-- The records of a batch were put, the batch's gate is open, and the records were committed to the log, or the commit
-- failed. After the commit, the contents have these records.
pub record CommitsBatch {D : Type 0} (disk : Ghosts D) (old : LogPagerValue D) (shown : ShownValue) (batch : Batch)
    (low first : ℕ) (done : Bool) (new : LogPagerValue D) (opened : ShownValue) : Type 0 where
  pub log : new.store.tail.log ≡ old.store.tail.log
  pub honest : disk.is_honest new.device ↔ disk.is_honest old.device
  pub later : disk.moment old.device ≤ disk.moment new.device
  pub none_put : done ≡ true → new.staged ≡ []
  pub number : done ≡ true → new.store.tail.number ≡ old.store.tail.number + 1
  pub opens : OpensShown shown batch opened
  pub opened_is : opened ≡ with_batch shown batch
  pub after : (ℕ → List ℕ) → ℕ → List ℕ
  pub put : (contents : ℕ → List ℕ) → HasPut shown batch low first contents (after contents)
  pub over : done ≡ true → (contents : ℕ → List ℕ) → disk.is_honest old.device → IsPagerOver disk old contents
      → IsPagerOver disk new (after contents)
  pub ended : done ≡ true → (contents : ℕ → List ℕ) → disk.is_honest old.device → IsPagerOver disk old contents
      → IsEnded disk old → IsEnded disk new
  pub held : (contents : ℕ → List ℕ) → disk.is_honest old.device → IsPagerOver disk old contents
      → LeavesOnly disk.moment disk.left_since old.device new.device
      (HoldsUpTo old.store.tail.log old.store.tail.number contents)
  pub leaves : (contents : ℕ → List ℕ) → disk.is_honest old.device
      → old.store.tail.log.sealing ≡ ByByte → IsPagerOver disk old contents
      → LeavesOnly disk.moment disk.left_since old.device new.device
      (λ c. LogRecovers old.store.tail.log contents c ⊎ LogRecovers old.store.tail.log (after contents) c)
  pub stays : (text : List ℕ) → ((c : List ℕ) → disk.may_leave old.device c → block_at c 0 ≡ text)
      → KeepsFirst disk text old.device new.device
