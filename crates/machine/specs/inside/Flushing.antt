-- The facts that private calls ensure about a step of the write-outs.
use Rattle.std.specs.Prelude.{ℕ, ◌≡◌, ◌≢◌, ◌*◌, ◌≤◌, ◌<◌, ◌^◌, Bool, true, false, not, List, [], length, None}
use Rattle.std.specs.Prelude.{Result, Ok, Err}
use Rattle.device.specs.Did.{Did}
use Rattle.device.specs.declared.device.Device.{Ghosts}
use Rattle.volume_codec.specs.Super.{block_count}
use Rattle.page_entry.specs.declared.refusal.Refusal.{Refusal}
use Rattle.page_entry.specs.declared.refusal.Refusal.TheVariants as refusals
use Rattle.page_entry.specs.declared.numbers.FilePage.{FilePage}
use Rattle.frames.specs.Frames.{FramesState, without_copies}
use Rattle.journal.specs.declared.flushed.Flushed.{Flushed}
use Rattle.journal.specs.declared.flushed.Flushed.TheVariants as flushed
use Rattle.checkpoint.specs.Checkpoint.{CheckpointState, without_copy_of, released, thawed}
use Rattle.fault.specs.Fault.{is_in_memory}
use Rattle.machine.specs.declared.act.Act.TheVariants as acts
use Rattle.machine.specs.declared.act.Reply.{Reply}
use Rattle.machine.specs.declared.act.Reply.TheVariants as replies
use Rattle.machine.specs.declared.flushing.Source.{Source}
use Rattle.machine.specs.declared.flushing.Source.TheVariants as sources
use Rattle.machine.specs.declared.layers.Layers.{Layers}
use Rattle.machine.specs.Refusals.{reason_against}
use Rattle.machine.specs.Rules.{Acts, bytes_at_mark}
use Rattle.machine.specs.Calls.{has_failed}
use Rattle.machine.specs.Steps.{step_work}
use Rattle.machine.specs.inside.Sound.{IsSound}
use Rattle.machine.specs.inside.Layers.{state_in, AnswersBy, KeepsReserved}

-- The write-outs can make their next step: some are not done, and none of their device calls has failed.
pub record CanStep {D Z : Type 0} (seen : D → List ℕ) (m : Layers D Z) : Type 0 where
  pub sound : IsSound (state_in m)
  pub long : 4096 * block_count m.table ≤ length (seen m.device)
  pub whole : m.write_outs.broken ≡ false
  pub some : m.write_outs.batches ≢ []

-- A step of the write-outs. It obeys the rules for any processor that may make it, and makes the device calls of its
-- work.
pub record IsStepped {D Z : Type 0} (disk : Ghosts D) (old : Layers D Z) (reply : Reply) (new : Layers D Z)
    : Type 0 where
  pub rules : (p : ℕ) → reason_against (state_in old) p acts.Flush ≡ None
      → AnswersBy (disk.is_honest old.device) (λ d d'. Acts (state_in old) d p acts.Flush reply (state_in new) d')
      (disk.seen old.device) (disk.seen new.device)
  pub did : Did disk old.device (step_work (state_in old) acts.Flush reply) (not (has_failed reply)) new.device
  pub kept : KeepsReserved old new

-- An answer's mark has 32 bits.
abbrev pub HasSmallMark : Flushed → Type 0
HasSmallMark (flushed.Committed mark) = mark < 2 ^ 32
HasSmallMark (flushed.Done mark) = mark < 2 ^ 32
HasSmallMark answer = Unit {0}

abbrev pub reply_of_flush : Flushed → Result Reply Refusal
reply_of_flush flushed.Going = Ok replies.Going
reply_of_flush (flushed.Committed mark) = Ok (replies.Committed mark)
reply_of_flush (flushed.Done mark) = Ok (replies.Done mark)
reply_of_flush flushed.Device = Err refusals.Device
reply_of_flush flushed.Broken = Err refusals.Broken

-- If the bytes for the step come from a page, that page is in memory.
abbrev pub IsThere : FramesState → Source → Type 0
IsThere memory (sources.Block block) = Unit {0}
IsThere memory (sources.Page page) = is_in_memory memory page ≡ true

-- The bytes for the step.
abbrev pub bytes_from : FramesState → Source → List ℕ
bytes_from memory (sources.Block block) = block.now
bytes_from memory (sources.Page page) = bytes_at_mark memory page

-- The first frozen page.
abbrev pub first_frozen : CheckpointState → FilePage
first_frozen c = Rattle.std.specs.Prelude.slice_index_or c.frozen 0 (record { file = 0; page = 0 })

-- The frames and the frozen pages after a step. `writes` is true if the step writes the record of a page.
abbrev pub released_memory : Bool → CheckpointState → FramesState → FramesState
released_memory true c memory = without_copy_of memory (first_frozen c)
released_memory false c memory = memory

abbrev pub memory_after : Flushed → Bool → CheckpointState → FramesState → FramesState
memory_after flushed.Device writes c memory = without_copies memory
memory_after answer writes c memory = released_memory writes c memory

abbrev pub released_pages : Bool → CheckpointState → CheckpointState
released_pages true c = released c
released_pages false c = c

abbrev pub checkpoint_after : Flushed → Bool → CheckpointState → CheckpointState
checkpoint_after flushed.Device writes c = thawed c
checkpoint_after answer writes c = released_pages writes c
