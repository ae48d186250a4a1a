-- A write-out as the code lists it: with the memory of its list of home blocks.
use Rattle.std.specs.Prelude.{ℕ, ◌+◌, length}
use Rattle.journal.specs.declared.flushed.Flushed.{Flushed}
use Rattle.volume_codec.specs.Recovery.{Batch}
use Rattle.journal.specs.WriteOut.{WriteOut, begun_of, advanced_of, write_out_after}

pub record QueuedWriteOut : Type 0 where
  pub write_out : WriteOut
  -- the number of home blocks for which its list has memory
  pub room : ℕ

-- The queued write-out before its first step.
abbrev pub queued_of : ℕ → Batch → ℕ → QueuedWriteOut
queued_of slots batch room = record { write_out = begun_of slots batch; room = room }

-- the write-out after the step that commits it
abbrev pub committed_of : WriteOut → WriteOut
committed_of w = record w { steps = length w.batch.homes + w.described + 3 }

abbrev pub committed_in : ℕ → Batch → WriteOut
committed_in slots batch = committed_of (begun_of slots batch)

-- The queued write-out after one more step.
abbrev pub queued_advanced : QueuedWriteOut → QueuedWriteOut
queued_advanced queued = record queued { write_out = advanced_of queued.write_out }

-- The queued write-out after a step with this answer.
abbrev pub queued_after : QueuedWriteOut → Flushed → QueuedWriteOut
queued_after queued answer = record queued { write_out = write_out_after answer queued.write_out }
