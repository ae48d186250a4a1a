-- The result of opening a disk.
use Rattle.std.specs.Prelude.{ℕ, ◌≡◌, ◌≢◌, ◌-◌, ◌≤◌, min, Ok, Err}
use Rattle.page_entry.specs.declared.refusal.Refusal.{Refusal}
use Rattle.page_entry.specs.declared.refusal.Refusal.TheVariants as refusals
use Rattle.device.specs.Device.{LeavesOnly}
use Rattle.device.specs.Memory.{seen_of}
use Rattle.deferred_disk.specs.Deferred.{Deferred, as_memory, IsSuppliedWell}
use Rattle.volume_codec.specs.Layout.{block_at}
use Rattle.log_codec.specs.Log.{IsCommitSize}
use Rattle.log_volume.specs.Super.{LogSuperValue}
use Rattle.log_opening.specs.Opening.{HasWrittenNothing, IsCounted}
use Rattle.log_opening.specs.Volume.{HasOpenedVolume, RefusesVolume, LeftByOpeningVolume}
use Rattle.log_pager.specs.Pager.{IsPagerOver}
use Rattle.log_files.specs.State.{fresh_log_files}
use Rattle.embedded.specs.Recorded.{deferred_disk}
use Rattle.embedded_log.specs.State.{EmbeddedLogState, log_just_opened}

-- A crash within an opening leaves what it might have left before, or bytes that recover to the same contents.
abbrev pub LeavesByOpening : Deferred → Deferred → Type 0
LeavesByOpening before after = IsSuppliedWell before
    → LeavesOnly deferred_disk.moment deferred_disk.left_since before after (LeftByOpeningVolume deferred_disk before)

-- An open volume with a log after an opening of this disk, as by `LogFiles::open`. A commit takes at most `most` pages
-- of files.
pub record OpensLogVolume (disk : Deferred) (most : ℕ) (e : EmbeddedLogState) : Type 0 where
  pub begins : e ≡ log_just_opened (fresh_log_files e.files.table e.files.lengths e.files.most
      e.files.pager.store.tail.start e.files.pager.store.second e.files.pager.device)
  pub most_is : (limit : ℕ) → IsCommitSize e.files.table.ring limit
      → ((n : ℕ) → IsCommitSize e.files.table.ring n → n ≤ limit) → e.files.most ≡ min most (limit - 1)
  pub opened : IsSuppliedWell disk → HasOpenedVolume deferred_disk disk e.files.table e.files.lengths
      e.files.pager.store.tail.start e.files.pager.device
  pub over : IsSuppliedWell disk
      → IsPagerOver deferred_disk e.files.pager (block_at (seen_of (as_memory e.files.pager.device)))
  pub crash : LeavesByOpening disk e.files.pager.device
  pub counted : IsCounted {X = LogSuperValue} deferred_disk disk (Ok e.files.table) e.files.pager.device

-- The opening of a volume with a log was refused with this refusal. Nothing was written, unless a device call failed.
pub record RefusesEmbeddedLog (disk : Deferred) (why : Refusal) (after : Deferred) : Type 0 where
  pub reason : IsSuppliedWell disk → RefusesVolume (seen_of (as_memory disk)) why
  pub unwritten : why ≢ refusals.Device → HasWrittenNothing deferred_disk disk after
  pub crash : LeavesByOpening disk after
  pub counted : IsCounted {X = LogSuperValue} deferred_disk disk (Err why) after
