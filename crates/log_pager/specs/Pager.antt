-- A pager over a log: the blocks that were put since the last commit (the staged blocks), and the store of the commits.
use Rattle.std.specs.Prelude.{⊤, ◌≡◌, ◌⊎◌, ℕ, ◌+◌, ◌*◌, ◌<◌, ◌≤◌, ◌||◌, nat_lt, if◌then◌else◌, List, length, is_some}
use Rattle.std.specs.Prelude.{None, unwrap_or}
use Rattle.volume_codec.specs.Descriptor.{RiseWithin}
use Rattle.device.specs.declared.device.Device.{Ghosts}
use Rattle.kept_blocks.specs.Blocks.{Blocks, homes_in, bytes_in, all_bytes}
use Rattle.log_codec.specs.Log.{IsCommitSize, first_log_home, log_commit_blocks}
use Rattle.log_codec.specs.Chain.{IsLogHome, LogRecovers}
use Rattle.log_commits.specs.Tail.{TailValue, HoldsUpTo}
use Rattle.log_commits.specs.Told.{TellsTorn, IsThis}
use Rattle.log_commits.specs.Commit.{next_logged}
use Rattle.log_store.specs.declared.fault.StoreFault.TheVariants.{Range, OutOfMemory}
use Rattle.log_store.specs.Store.{StoreValue, IsStoreOver, RefusesEnd, RefusesRead, RefusesStoreCommit, RefusesStepBy}
use Rattle.log_store.specs.Store.{store_read_calls}
use Rattle.log_pager.specs.declared.fault.PagerFault.{PagerFault}
use Rattle.log_pager.specs.declared.fault.PagerFault.TheVariants.{Full, Short, Store}

-- The records of a commit of these blocks.
abbrev pub records_put : Blocks → List ℕ
records_put blocks = all_bytes blocks

-- The store, the staged blocks, and the device.
pub record LogPagerValue (D : Type 0) : Type 0 where
  pub store : StoreValue
  pub staged : Blocks
  pub device : D

-- The bytes that callers see in a home block: the staged ones if there are any, or else those that the commits left.
abbrev pub contents_put : (ℕ → List ℕ) → Blocks → ℕ → List ℕ
contents_put contents staged b = unwrap_or (bytes_in staged b) (contents b)

-- The pager agrees with its device: its store does, the volume fits the device, and the staged blocks are blocks of the
-- volume.
pub record IsPagerOver {D : Type 0} (disk : Ghosts D) (s : LogPagerValue D) (contents : ℕ → List ℕ) : Type 0 where
  pub store : IsStoreOver disk s.store contents s.device
  pub long : 4096 * s.store.tail.log.blocks ≤ length (disk.seen s.device)
  pub rising : RiseWithin (first_log_home s.store.tail.log.ring) s.store.tail.log.blocks (homes_in s.staged)

-- What a crash within a commit of blocks leaves. The bytes contain the commits before it. They recover to contents with
-- all of the blocks, or with none. If a digest seals commits, this requires that no torn commit has the digest of a
-- whole one.
pub record LeftByPut (t : TailValue) (contents : ℕ → List ℕ) (blocks : Blocks) (bytes : List ℕ) : Type 0 where
  pub up_to : HoldsUpTo t.log t.number contents bytes
  pub recovers : TellsTorn (IsThis (next_logged t (homes_in blocks)) (records_put blocks)) t.log t.number bytes
      → LogRecovers t.log contents bytes ⊎ LogRecovers t.log (contents_put contents blocks) bytes

-- The device is shorter than the volume.
abbrev pub IsShort : {D : Type 0} → Ghosts D → LogPagerValue D → Type 0
IsShort disk s = length (disk.seen s.device) < 4096 * s.store.tail.log.blocks

-- Why putting a block fails.
abbrev pub RefusesLogPut : {D : Type 0} → LogPagerValue D → ℕ → PagerFault → Type 0
RefusesLogPut s home Full = (bytes_in s.staged home ≡ None)
    × (IsCommitSize s.store.tail.log.ring (length s.staged + 1) → ⊥)
RefusesLogPut s home (Store Range) = IsLogHome s.store.tail.log home → ⊥
RefusesLogPut s home (Store OutOfMemory) = ⊤
RefusesLogPut s home other = ⊥

-- Why reading a home block, a commit, a step, or the search for the end of the log fails. The reasons are those of the
-- store, a device that is too short, and, for a commit, too many blocks.
abbrev pub RefusesPagerRead : {D : Type 0} → Ghosts D → LogPagerValue D → ℕ → PagerFault → Type 0
RefusesPagerRead disk s home Full = ⊥
RefusesPagerRead disk s home Short = IsShort disk s
RefusesPagerRead disk s home (Store fault) = (bytes_in s.staged home ≡ None) × RefusesRead s.store home fault

-- The number of device calls that reading a home block makes. There are none if the block is staged, or if the device
-- is too short.
abbrev pub pager_read_calls : {D : Type 0} → Ghosts D → LogPagerValue D → ℕ → ℕ
pager_read_calls disk s home =
    if is_some (bytes_in s.staged home) || nat_lt (length (disk.seen s.device)) (4096 * s.store.tail.log.blocks) then 0
    else store_read_calls s.store home

abbrev pub RefusesPagerCommit : {D : Type 0} → Ghosts D → LogPagerValue D → PagerFault → Type 0
RefusesPagerCommit disk s Full = 65535 < length s.staged
RefusesPagerCommit disk s Short = IsShort disk s
RefusesPagerCommit disk s (Store fault) =
    RefusesStoreCommit s.store (homes_in s.staged) (4096 * log_commit_blocks (length s.staged) + 1) fault

abbrev pub RefusesPagerStep : {D : Type 0} → Ghosts D → LogPagerValue D → PagerFault → Type 0
RefusesPagerStep disk s Full = ⊥
RefusesPagerStep disk s Short = IsShort disk s
RefusesPagerStep disk s (Store fault) = RefusesStepBy s.store s.store.stage fault

abbrev pub RefusesPagerEnd : {D : Type 0} → Ghosts D → LogPagerValue D → PagerFault → Type 0
RefusesPagerEnd disk s Full = ⊥
RefusesPagerEnd disk s Short = IsShort disk s
RefusesPagerEnd disk s (Store fault) = RefusesEnd fault
