-- A write-out: a batch, and its steps to the home blocks. And the value of a `Flush`, which is a single write-out.
use Rattle.std.specs.Prelude.{ℕ, zero, suc, ◌+◌, ◌*◌, ◌<◌, if◌then◌else◌, Bool, true, false}
use Rattle.std.specs.Prelude.{List, [], length, slice_index, Option, Some, None}
use Rattle.std.specs.Option.{option_map, option_map_or, option_and_then}
use Rattle.volume_codec.specs.Layout.{GeometryValue, journals_of, descriptor_blocks}
use Rattle.volume_codec.specs.Descriptor.{IsDescribed}
use Rattle.volume_codec.specs.Recovery.{Batch}
use Rattle.journal.specs.declared.stage.Stage.{Stage}
use Rattle.journal.specs.declared.stage.Stage.TheVariants.{Recording}
use Rattle.journal.specs.declared.flushed.Flushed.{Flushed}
use Rattle.journal.specs.declared.flushed.Flushed.TheVariants.{Device, Broken}
use Rattle.journal.specs.Stage.{stage_at, is_committed, answer_at}
use Rattle.journal.specs.Work.{Work, Nothing, work_at, calls_of}

-- `batch` is a batch of a volume of this geometry: its journal exists, and a descriptor can describe it.
pub record IsBatch (g : GeometryValue) (batch : Batch) : Type 0 where
  pub there : batch.journal < journals_of g.layout
  pub described : IsDescribed g (record { mark = batch.mark; homes = batch.homes })

-- A batch, and the number of steps of its write-out that were made.
pub record WriteOut : Type 0 where
  pub batch : Batch
  -- the number of blocks of its journal's descriptor
  pub described : ℕ
  pub steps : ℕ

-- The write-out of a batch after this number of steps. The volume's journals have `slots` slots.
abbrev pub after_steps : ℕ → Batch → ℕ → WriteOut
after_steps slots batch steps = record { batch = batch; described = descriptor_blocks slots; steps = steps }

-- The write-out of a batch before its first step.
abbrev pub begun_of : ℕ → Batch → WriteOut
begun_of slots batch = after_steps slots batch 0

-- the write-out after one more step
abbrev pub advanced_of : WriteOut → WriteOut
advanced_of w = record w { steps = w.steps + 1 }

-- The number of steps that commit a batch, and the number of all steps.
abbrev pub committing_steps : ℕ → Batch → ℕ
committing_steps slots batch = length batch.homes + descriptor_blocks slots + 3

abbrev pub all_steps : ℕ → Batch → ℕ
all_steps slots batch = 2 * length batch.homes + descriptor_blocks slots + 6

-- The stage of the next step, unless the write-out is done.
abbrev pub next_stage : WriteOut → Option Stage
next_stage w = stage_at (length w.batch.homes) w.described w.steps

-- The batch is committed.
abbrev pub has_committed : WriteOut → Bool
has_committed w = option_map_or is_committed (next_stage w) true

-- The place of the record that the next step writes, if it writes one, and the home block of that record.
abbrev pub record_at : Stage → Option ℕ
record_at (Recording i) = Some i
record_at stage = None

abbrev pub next_record : WriteOut → Option ℕ
next_record w = option_and_then record_at (next_stage w)

abbrev pub next_home : WriteOut → Option ℕ
next_home w = option_map (slice_index w.batch.homes) (next_record w)

-- The device work of the next step in a volume of this geometry. `bytes` are the bytes of the record, if the step
-- writes one.
abbrev pub work_of : GeometryValue → List ℕ → WriteOut → Work
work_of g bytes w = option_map_or (work_at g w.batch bytes) (next_stage w) Nothing

-- What the next step answers if its device calls succeed.
abbrev pub answer_of : WriteOut → Flushed
answer_of w = option_map_or (answer_at w.batch.mark) (next_stage w) Broken

-- The write-out after a step with this answer, and whether a device call has failed.
abbrev pub write_out_after : Flushed → WriteOut → WriteOut
write_out_after Device w = w
write_out_after Broken w = w
write_out_after answer w = advanced_of w

abbrev pub broken_after : Flushed → Bool → Bool
broken_after Device broken = true
broken_after answer broken = broken

-- The number of device calls of the first steps of a batch's write-out, if none fails.
abbrev pub calls_in_steps : GeometryValue → Batch → ℕ → ℕ
calls_in_steps g batch zero = 0
calls_in_steps g batch (suc steps) =
    calls_in_steps g batch steps + calls_of (work_of g [] (after_steps g.slots batch steps))

-- ---- a `Flush`

pub record FlushValue : Type 0 where
  -- where the parts of the volume are
  pub geometry : GeometryValue
  pub write_out : WriteOut
  -- whether a device call failed in a step
  pub broken : Bool
  -- the number of home blocks for which its list has memory
  pub room : ℕ

-- The value before the first step.
abbrev pub flush_of : GeometryValue → Batch → ℕ → FlushValue
flush_of g batch room = record { geometry = g; write_out = begun_of g.slots batch; broken = false; room = room }

-- The record that the next step writes, its home block, and the work and the answer of that step.
abbrev pub flush_record : FlushValue → Option ℕ
flush_record flush = if flush.broken then None else next_record flush.write_out

abbrev pub flush_home : FlushValue → Option ℕ
flush_home flush = if flush.broken then None else next_home flush.write_out

abbrev pub flush_work : FlushValue → List ℕ → Work
flush_work flush bytes = if flush.broken then Nothing else work_of flush.geometry bytes flush.write_out

abbrev pub flush_answer : FlushValue → Flushed
flush_answer flush = if flush.broken then Broken else answer_of flush.write_out

-- The value after a step with this answer.
abbrev pub flush_after : FlushValue → Flushed → FlushValue
flush_after flush answer = record flush {
  write_out = write_out_after answer flush.write_out;
  broken = broken_after answer flush.broken;
}
