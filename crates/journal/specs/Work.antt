-- The device calls of a write-out's steps.
use Rattle.std.specs.Prelude.{ℕ, ◌+◌, ◌*◌, Bool, true, false, List, [], ◌∷◌, slice_index}
use Rattle.volume_codec.specs.Layout.{GeometryValue, gate_block, descriptor_block, record_block, block_at}
use Rattle.volume_codec.specs.Descriptor.{descriptor_text}
use Rattle.volume_codec.specs.Recovery.{Batch}
use Rattle.journal.specs.declared.flushed.Flushed.{Flushed}
use Rattle.journal.specs.declared.flushed.Flushed.TheVariants.{Device}
use Rattle.journal.specs.declared.stage.Stage.{Stage}
use Rattle.journal.specs.declared.stage.Stage.TheVariants.{Recording, Describing, SyncingRecords, Opening}
use Rattle.journal.specs.declared.stage.Stage.TheVariants.{Committing, Applying, SyncingHomes, Closing, Finishing}
pub use Rattle.device.specs.Work.{Work, WriteAt, CopyBlock, Sync, Nothing, worked}
pub use Rattle.device.specs.Work.{TornByWork, TornFromWork, calls_of, HasFailed}

-- The work of this stage's step in the write-out of this batch. `bytes` are the bytes of the record, if the step writes
-- one.
abbrev pub work_at : GeometryValue → Batch → List ℕ → Stage → Work
work_at g batch bytes (Recording i) = WriteAt (4096 * record_block g.slots batch.journal i) bytes
work_at g batch bytes (Describing i) =
    WriteAt (4096 * (descriptor_block g.slots batch.journal + i))
    (block_at (descriptor_text g.slots (record { mark = batch.mark; homes = batch.homes })) i)
work_at g batch bytes SyncingRecords = Sync
work_at g batch bytes Opening = WriteAt (4096 * gate_block g.slots batch.journal) (0xA7 ∷ [])
work_at g batch bytes Committing = Sync
work_at g batch bytes (Applying i) = CopyBlock (record_block g.slots batch.journal i) (slice_index batch.homes i)
work_at g batch bytes SyncingHomes = Sync
work_at g batch bytes Closing = WriteAt (4096 * gate_block g.slots batch.journal) (0 ∷ [])
work_at g batch bytes Finishing = Sync

-- No device call of a step with this answer failed.
abbrev pub has_done : Flushed → Bool
has_done Device = false
has_done answer = true
