-- How the start of a log moves behind its oldest commits, which frees their blocks.
use Rattle.std.specs.Prelude.{◌≡◌, ◌⊎◌, ℕ, ◌+◌, ◌-◌, ◌*◌, ◌%◌, ◌<◌, ◌≤◌}
use Rattle.std.specs.Prelude.{Bool, true, false, not, if◌then◌else◌, List, [], ◌∷◌, ◌++◌, length, slice_index}
use Rattle.volume_codec.specs.Layout.{block_at}
use Rattle.device.specs.declared.device.Device.{Ghosts}
use Rattle.device.specs.Device.{LeavesOnly, Only}
use Rattle.device.specs.Work.{Work, WriteAt, Sync}
use Rattle.log_codec.specs.declared.start.LogStart.{LogStart}
use Rattle.log_codec.specs.Log.{LogValue, first_log_home}
use Rattle.log_codec.specs.Start.{IsStartBlock, start_block, start_text, counts_second}
use Rattle.log_codec.specs.Commit.{LogDescriptor}
use Rattle.log_codec.specs.Chain.{LogRecovers, IsLogHome, chain_blocks}
use Rattle.log_commits.specs.declared.behind.OldCommits.{OldCommits}
use Rattle.log_commits.specs.declared.behind.MoveFault.{MoveFault}
use Rattle.log_commits.specs.declared.behind.MoveFault.TheVariants.{Spent, Range, Device}
use Rattle.log_commits.specs.Tail.{TailValue, HoldsLog, HoldsUpTo}
use Rattle.log_commits.specs.Told.{TellsTorn, IsNone}
use Rattle.log_commits.specs.Homes.{AreWrittenHome}

-- The start behind the oldest commits, those below the number `oldest.below`.
abbrev pub start_behind : TailValue → OldCommits → LogStart
start_behind t oldest = record {
  position = (t.start.position + oldest.blocks) % t.log.ring;
  number = oldest.below;
  epoch = t.start.epoch;
}

-- The tail once that start is selected: the blocks of these commits are free.
abbrev pub tail_behind : TailValue → OldCommits → TailValue
tail_behind t oldest = record t { start = start_behind t oldest; used = t.used - oldest.blocks }

-- The start may move behind these commits.
pub record MayMove (t : TailValue) (oldest : OldCommits) : Type 0 where
  pub whole : t.spent ≡ false
  pub blocks : oldest.blocks ≤ t.used
  pub low : t.start.number ≤ oldest.below
  pub high : oldest.below ≤ t.number

-- The refusals of a move. A device call may fail in any move that may begin.
abbrev pub RefusesMove : TailValue → OldCommits → MoveFault → Type 0
RefusesMove t oldest Spent = t.spent ≡ true
RefusesMove t oldest Range = (t.used < oldest.blocks) ⊎ (oldest.below < t.start.number) ⊎ (t.number < oldest.below)
RefusesMove t oldest Device = MayMove t oldest

-- The refusals of making the written bytes durable.
abbrev pub RefusesSure : TailValue → MoveFault → Type 0
RefusesSure t Spent = t.spent ≡ true
RefusesSure t Range = ⊥
RefusesSure t Device = t.spent ≡ false

-- `size` bytes may be written into the home blocks from `home` on.
pub record MayWriteHome (t : TailValue) (home size : ℕ) : Type 0 where
  pub whole : t.spent ≡ false
  pub blocks : size % 4096 ≡ 0
  pub low : first_log_home t.log.ring ≤ home
  pub high : 4096 * home + size ≤ 4096 * t.log.blocks

abbrev pub RefusesHome : TailValue → ℕ → ℕ → MoveFault → Type 0
RefusesHome t home size Spent = t.spent ≡ true
RefusesHome t home size Range =
    (size % 4096 ≡ 0 → ⊥) ⊎ (home < first_log_home t.log.ring) ⊎ (4096 * t.log.blocks < 4096 * home + size)
RefusesHome t home size Device = MayWriteHome t home size

-- A block of the log may be copied to a home block.
pub record MayCopyHome (t : TailValue) (block home : ℕ) : Type 0 where
  pub whole : t.spent ≡ false
  pub least : 4 ≤ block
  pub most : block < first_log_home t.log.ring
  pub is_home : IsLogHome t.log home

abbrev pub RefusesCopy : TailValue → ℕ → ℕ → MoveFault → Type 0
RefusesCopy t block home Spent = t.spent ≡ true
RefusesCopy t block home Range =
    (block < 4) ⊎ (first_log_home t.log.ring ≤ block) ⊎ (home < first_log_home t.log.ring) ⊎ (t.log.blocks ≤ home)
RefusesCopy t block home Device = MayCopyHome t block home

-- The byte that selects the second start or the first one.
abbrev pub selecting : Bool → ℕ
selecting second = if second then 0xA7 else 0

-- The device calls of a move. The new start replaces the unselected one, and is synced. Then it is selected, and this
-- is synced.
abbrev pub start_work : TailValue → Bool → OldCommits → Work
start_work t second oldest = WriteAt (4096 * start_block (not second)) (start_text (start_behind t oldest))

abbrev pub select_works : Bool → List Work
select_works second = WriteAt 4096 (selecting (not second) ∷ []) ∷ Sync ∷ []

abbrev pub move_works : TailValue → Bool → OldCommits → List Work
move_works t second oldest = start_work t second oldest ∷ Sync ∷ select_works second

-- `bytes` contain a log with this tail, these contents and the commits `chain`. `second` is whether the second start is
-- selected.
pub record HoldsCommits (second : Bool) (t : TailValue) (contents : ℕ → List ℕ) (chain : List LogDescriptor)
    (bytes : List ℕ) : Type 0 where
  pub held : HoldsLog t contents bytes
  pub chain_is : held.chain ≡ chain
  pub selected : second ≡ counts_second (slice_index bytes 4096)

-- Each list of bytes that a crash may leave of a device contains that log.
abbrev pub HasCommits : {D : Type 0} → Ghosts D → Bool → TailValue → (ℕ → List ℕ) → List LogDescriptor → D → Type 0
HasCommits disk second t contents chain device =
    (c : List ℕ) → disk.may_leave device c → HoldsCommits second t contents chain c

-- Outside the log, `new` has the bytes of `old`.
pub record IsSameOutside (g : LogValue) (old new : List ℕ) : Type 0 where
  pub same_length : length new ≡ length old
  pub places : (i : ℕ) → (i < 16384) ⊎ (4096 * first_log_home g.ring ≤ i) → slice_index new i ≡ slice_index old i

-- `ds` are the commits below the number, and they use the blocks.
pub record AreOldest (t : TailValue) (oldest : OldCommits) (ds : List LogDescriptor) : Type 0 where
  pub number : oldest.below ≡ t.start.number + length ds
  pub blocks : oldest.blocks ≡ chain_blocks ds

-- What calls that change no contents leave: the log with its commits, at each moment of the calls and afterwards.
pub record LeavesCommits {D : Type 0} (disk : Ghosts D) (second : Bool) (t : TailValue) (contents : ℕ → List ℕ)
    (chain : List LogDescriptor) (old new : D) : Type 0 where
  pub crash : LeavesOnly disk.moment disk.left_since old new (HoldsCommits second t contents chain)
  pub left : HasCommits disk second t contents chain new

-- `new` is `old`, except for `bytes` in the home blocks from `home` on.
pub record HasHomes (home : ℕ) (bytes old new : List ℕ) : Type 0 where
  pub there : (b : ℕ) → home ≤ b → 4096 * b < 4096 * home + length bytes → block_at new b ≡ block_at bytes (b - home)
  pub elsewhere : (b : ℕ) → (b < home) ⊎ (4096 * home + length bytes ≤ 4096 * b) → block_at new b ≡ block_at old b

-- All is ready for selecting the start behind the oldest commits: it is written, and so are the home blocks of these
-- commits.
pub record IsReadyToMove (second : Bool) (t : TailValue) (oldest : OldCommits) (contents : ℕ → List ℕ)
    (ds younger : List LogDescriptor) (bytes : List ℕ) : Type 0 where
  pub holds : HoldsCommits second t contents (ds ++ younger) bytes
  pub oldest_are : AreOldest t oldest ds
  pub start : IsStartBlock t.log.ring (start_behind t oldest) (block_at bytes (start_block (not second)))
  pub written : AreWrittenHome t.log contents ds younger bytes

-- What a crash leaves within calls that change no contents: at least the commits so far. If no other commit can be
-- read, the log recovers to exactly these contents.
pub record LeftUnchanged (t : TailValue) (contents : ℕ → List ℕ) (bytes : List ℕ) : Type 0 where
  pub up_to : HoldsUpTo t.log t.number contents bytes
  pub recovers : TellsTorn IsNone t.log t.number bytes → LogRecovers t.log contents bytes

-- What the calls of a move leave. At each moment, the contents are the same. Once the calls have succeeded, the new
-- start is selected and durable.
pub record MoveLeaves {D : Type 0} (disk : Ghosts D) (second : Bool) (t : TailValue) (oldest : OldCommits)
    (contents : ℕ → List ℕ) (younger : List LogDescriptor) (done : Bool) (old new : D) : Type 0 where
  pub crash : LeavesOnly disk.moment disk.left_since old new (LeftUnchanged t contents)
  pub durable : done ≡ true → Only (disk.may_leave new) (disk.seen new)
  pub moved : done ≡ true → HoldsCommits (not second) (tail_behind t oldest) contents younger (disk.seen new)
