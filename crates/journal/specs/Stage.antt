-- The stages of a write-out. The next stage depends on the number of its blocks, of its journal's descriptor blocks,
-- and of its steps so far.
use Rattle.std.specs.Prelude.{ℕ, Bool, true, false, not, List, [], ◌∷◌, ◌++◌, map, Option, slice_get}
use Rattle.std.specs.List.{range_with_len}
use Rattle.journal.specs.declared.stage.Stage.{Stage}
use Rattle.journal.specs.declared.stage.Stage.TheVariants.{Recording, Describing, SyncingRecords, Opening}
use Rattle.journal.specs.declared.stage.Stage.TheVariants.{Committing, Applying, SyncingHomes, Closing, Finishing}
use Rattle.journal.specs.declared.flushed.Flushed.{Flushed}
use Rattle.journal.specs.declared.flushed.Flushed.TheVariants.{Going, Committed, Done}

-- Rule: closing order: A batch's home blocks are synced before its gate is closed. The batch is done once the closed
-- gate is synced. An opening finishes the older of two open journals first.
-- The stages of a write-out in order, one for each step. The batch has `blocks` blocks, and its descriptor has
-- `described` blocks.
abbrev pub stages : ℕ → ℕ → List Stage
stages blocks described =
    map Recording (range_with_len 0 blocks) ++ map Describing (range_with_len 0 described)
    ++ SyncingRecords ∷ Opening ∷ Committing
    ∷ (map Applying (range_with_len 0 blocks) ++ SyncingHomes ∷ Closing ∷ Finishing ∷ [])

-- The stage of the next step, after `steps` steps. None once all steps are made.
unfoldable pub stage_at : ℕ → ℕ → ℕ → Option Stage
stage_at blocks described steps = slice_get (stages blocks described) steps

-- At this stage the batch is committed: its open gate is durable.
abbrev pub is_committed : Stage → Bool
is_committed (Recording i) = false
is_committed (Describing i) = false
is_committed SyncingRecords = false
is_committed Opening = false
is_committed Committing = false
is_committed stage = true

-- The step of this stage writes.
abbrev pub has_writes : Stage → Bool
has_writes SyncingRecords = false
has_writes Committing = false
has_writes SyncingHomes = false
has_writes Finishing = false
has_writes stage = true

-- The step of this stage is a sync that may serve other write-outs too. This is any sync except the one that commits.
abbrev pub may_share : Stage → Bool
may_share Committing = false
may_share stage = not (has_writes stage)

-- At this stage the batch isn't committed, and the next step isn't the sync of its records.
abbrev pub is_ahead : Stage → Bool
is_ahead SyncingRecords = false
is_ahead stage = not (is_committed stage)

-- What the step of this stage answers in the write-out of this mark, if its device calls succeed.
abbrev pub answer_at : ℕ → Stage → Flushed
answer_at mark Committing = Committed mark
answer_at mark Finishing = Done mark
answer_at mark stage = Going
