-- A commit to the log: when it is refused, its device calls, and what a crash leaves of it.
use Rattle.std.specs.Prelude.{◌≡◌, ◌≢◌, ◌⊎◌, ℕ, ◌+◌, ◌*◌, ◌%◌, ◌<◌, ◌≤◌, ◌^◌, ◌==◌, if◌then◌else◌}
use Rattle.std.specs.Prelude.{Bool, true, false, List, [], ◌∷◌, ◌++◌, length, take, drop}
use Rattle.volume_codec.specs.Descriptor.{RiseWithin}
use Rattle.device.specs.declared.device.Device.{Ghosts}
use Rattle.device.specs.Device.{LeavesOnly, Only}
use Rattle.device.specs.Work.{Work, WriteAt, Sync}
use Rattle.log_codec.specs.declared.sealing.Sealing.{Sealing}
use Rattle.log_codec.specs.declared.sealing.Sealing.TheVariants.{ByByte, ByDigest}
use Rattle.log_codec.specs.Log.{IsCommitSize, first_log_home, ring_block}
use Rattle.log_codec.specs.Log.{log_descriptor_blocks, log_commit_blocks}
use Rattle.log_codec.specs.Commit.{LogDescriptor, log_body, log_seal}
use Rattle.log_codec.specs.Chain.{LogRecovers, spare_blocks}
use Rattle.log_commits.specs.declared.fault.CommitFault.{CommitFault}
use Rattle.log_commits.specs.declared.fault.CommitFault.TheVariants.{Spent, Count, Homes, Room, Number, Busy}
use Rattle.log_commits.specs.declared.fault.CommitFault.TheVariants.{Start, Device}
use Rattle.log_commits.specs.Ring.{ring_works}
use Rattle.log_commits.specs.Tail.{TailValue, HoldsLog, HoldsUpTo}
use Rattle.log_commits.specs.Told.{TellsTorn, IsThis}

-- The records in the caller's buffer `room`. They are behind the descriptor's blocks.
abbrev pub records_in : List ℕ → List ℕ → List ℕ
records_in homes room = take (4096 * length homes) (drop (4096 * log_descriptor_blocks (length homes)) room)

-- The log has too few free blocks for a commit of this number of records.
abbrev pub IsFull : TailValue → ℕ → Type 0
IsFull t records = t.log.ring < t.used + log_commit_blocks records + spare_blocks t.log.sealing

-- A commit of records for these home blocks may begin. `room` is the size of the caller's buffer.
pub record MayCommit (t : TailValue) (homes : List ℕ) (room : ℕ) : Type 0 where
  pub whole : t.spent ≡ false
  pub size : IsCommitSize t.log.ring (length homes)
  pub rising : RiseWithin (first_log_home t.log.ring) t.log.blocks homes
  pub room_is : room ≡ 4096 * log_commit_blocks (length homes) + 1
  pub number : t.number + 1 < 2 ^ 64
  pub free : t.used + log_commit_blocks (length homes) + spare_blocks t.log.sealing ≤ t.log.ring

-- The refusals of a commit. A device call may fail in any commit that may begin.
abbrev pub RefusesTailCommit : TailValue → List ℕ → ℕ → CommitFault → Type 0
RefusesTailCommit t homes room Spent = t.spent ≡ true
RefusesTailCommit t homes room Count = IsCommitSize t.log.ring (length homes) → ⊥
RefusesTailCommit t homes room Homes = RiseWithin (first_log_home t.log.ring) t.log.blocks homes → ⊥
RefusesTailCommit t homes room Room = room ≢ 4096 * log_commit_blocks (length homes) + 1
RefusesTailCommit t homes room Number = 2 ^ 64 ≤ t.number + 1
RefusesTailCommit t homes room Busy = IsFull t (length homes)
RefusesTailCommit t homes room Start = ⊥
RefusesTailCommit t homes room Device = MayCommit t homes room

-- The descriptor of the commit that is being made.
abbrev pub next_logged : TailValue → List ℕ → LogDescriptor
next_logged t homes = record { number = t.number; homes = homes }

-- The bytes of this commit in the log.
abbrev pub commit_bytes : TailValue → List ℕ → List ℕ → List ℕ
commit_bytes t homes records =
    let d = next_logged t homes in log_seal t.log.sealing t.start.epoch d records ++ log_body d ++ records

-- The device calls of a commit, which end with `last`. If a byte seals, all bytes but that one are written first, up to
-- the byte that closes the next seal, and are synced. Then the byte opens this seal. If a digest seals, all bytes are
-- written at once.
abbrev pub works_with : Sealing → ℕ → ℕ → List ℕ → List Work → List Work
works_with ByByte ring position bytes last =
    ring_works ring position 1 (bytes ++ 0 ∷ [])
    ++ (Sync ∷ WriteAt (4096 * ring_block ring position) (0xA7 ∷ []) ∷ last)
works_with (ByDigest key) ring position bytes last = ring_works ring position 0 bytes ++ last

-- The device calls of a commit that end with a sync, which makes the commit durable.
abbrev pub works_by : Sealing → ℕ → ℕ → List ℕ → List Work
works_by sealing ring position bytes = works_with sealing ring position bytes (Sync ∷ [])

abbrev pub commit_works : TailValue → List ℕ → List ℕ → List Work
commit_works t homes records = works_by t.log.sealing t.log.ring t.position (commit_bytes t homes records)

-- The tail behind this commit.
abbrev pub tail_after : TailValue → List ℕ → TailValue
tail_after t homes = record t {
  position = (t.position + log_commit_blocks (length homes)) % t.log.ring;
  number = t.number + 1;
  used = t.used + log_commit_blocks (length homes);
}

-- The contents with the commit's records: record `i` is for the home block at place `i`.
abbrev pub committed_to : (ℕ → List ℕ) → List ℕ → List ℕ → ℕ → List ℕ
committed_to contents [] records b = contents b
committed_to contents (home ∷ homes) records b =
    if b == home then take 4096 records else committed_to contents homes (drop 4096 records) b

-- What a crash within a commit leaves: at least the commits before it. If the digest detects a torn commit, the log
-- recovers to the contents without this commit's records, or with all of them.
pub record LeftByCommit (t : TailValue) (contents : ℕ → List ℕ) (homes records bytes : List ℕ) : Type 0 where
  pub up_to : HoldsUpTo t.log t.number contents bytes
  pub recovers : TellsTorn (IsThis (next_logged t homes) records) t.log t.number bytes
      → LogRecovers t.log contents bytes ⊎ LogRecovers t.log (committed_to contents homes records) bytes

-- What the calls of a commit leave: within them, a crash leaves what `LeftByCommit` allows. Once they have succeeded,
-- the commit is durable.
pub record CommitLeaves {D : Type 0} (disk : Ghosts D) (t : TailValue) (contents : ℕ → List ℕ)
    (homes records : List ℕ) (done : Bool) (old new : D) : Type 0 where
  pub crash : LeavesOnly disk.moment disk.left_since old new (LeftByCommit t contents homes records)
  pub durable : done ≡ true → Only (disk.may_leave new) (disk.seen new)
  pub committed : done ≡ true → HoldsLog (tail_after t homes) (committed_to contents homes records) (disk.seen new)
