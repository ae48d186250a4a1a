-- The value of `WriteOuts`: the unfinished write-outs of a volume, at most one for each journal.
use Rattle.std.specs.Prelude.{ℕ, ◌+◌, ◌==◌, ◌||◌, ◌&&◌, if◌then◌else◌, Bool, false, not, List}
use Rattle.std.specs.Prelude.{[], ◌∷◌, ◌++◌, length, drop, map, Contains, Option, Some, None}
use Rattle.std.specs.List.{list_any}
use Rattle.std.specs.Option.{option_map_or, option_and_then}
use Rattle.volume_codec.specs.declared.layout.Layout.{Layout}
use Rattle.volume_codec.specs.Layout.{GeometryValue, journals_of}
use Rattle.volume_codec.specs.Recovery.{Batch}
use Rattle.journal.specs.declared.stage.Stage.{Stage}
use Rattle.journal.specs.declared.flushed.Flushed.{Flushed}
use Rattle.journal.specs.declared.flushed.Flushed.TheVariants.{Done, Device, Broken}
use Rattle.journal.specs.Stage.{has_writes, may_share, is_ahead}
use Rattle.journal.specs.Work.{Work, Nothing}
use Rattle.journal.specs.WriteOut.{WriteOut, begun_of, advanced_of, next_stage, has_committed}
use Rattle.journal.specs.WriteOut.{next_record, next_home, work_of, answer_of, broken_after}

pub record WriteOutsValue : Type 0 where
  -- where the parts of the volume are
  pub geometry : GeometryValue
  -- the journal of the next batch
  pub next : ℕ
  -- the unfinished write-outs, the oldest first
  pub batches : List WriteOut
  -- whether a device call failed in a step
  pub broken : Bool

-- The value before the first batch, without write-outs.
abbrev pub none_of : GeometryValue → WriteOutsValue
none_of g = record { geometry = g; next = 0; batches = []; broken = false }

-- The batch of one of these write-outs isn't committed.
abbrev pub has_uncommitted : List WriteOut → Bool
has_uncommitted batches = list_any (λ w. not (has_committed w)) batches

-- ---- the write-out that makes the next step

-- In a layout with four journals, write-outs share their syncs. A commit's two syncs then serve its own batch, the home
-- blocks of the batch before, and the closed gate of the one before that.
abbrev pub shares_syncs : Layout → Bool
shares_syncs layout = journals_of layout == 4

-- The write-out's next step is of a stage with this property.
abbrev pub is_at : (Stage → Bool) → WriteOut → Bool
is_at has w = option_map_or has (next_stage w) false

-- A step of these newer write-outs comes before one of `w`. If syncs aren't shared: one of them isn't committed. If
-- syncs are shared: one of them isn't committed and isn't at the sync of its records; or `w` has nothing to write, and
-- one of them has.
abbrev pub gives_way : Bool → WriteOut → List WriteOut → Bool
gives_way shares w newer =
    if shares
    then list_any (is_at is_ahead) newer || (not (is_at has_writes w) && list_any (is_at has_writes) newer)
    else has_uncommitted newer

-- The write-out that makes the next step. Suppose that syncs are shared, no write-out is ahead (`is_ahead`), and none
-- has anything to write. Then the step is a sync of all of them, and this is the oldest.
abbrev pub moving : Bool → List WriteOut → Option WriteOut
moving shares [] = None
moving shares (w ∷ newer) = if gives_way shares w newer then moving shares newer else Some w

-- The newer write-outs after a step of the older one `w`. If the step is a shared sync, each takes part in it.
abbrev pub joined : Bool → WriteOut → List WriteOut → List WriteOut
joined shares w newer = if shares then (if is_at may_share w then map advanced_of newer else newer) else newer

-- The write-outs after the next step.
abbrev pub moved : Bool → List WriteOut → List WriteOut
moved shares [] = []
moved shares (w ∷ newer) =
    if gives_way shares w newer then w ∷ moved shares newer else advanced_of w ∷ joined shares w newer

-- The current write-out: the one whose batch isn't committed, or else the oldest. If no sync is shared, it makes the
-- next step. Its stage decides what a crash leaves, even if syncs are shared.
abbrev pub current : List WriteOut → Option WriteOut
current batches = moving false batches

-- The write-outs after a step of the current one, if no sync is shared.
abbrev pub advanced : List WriteOut → List WriteOut
advanced batches = moved false batches

-- The stage of the current write-out.
abbrev pub current_stage : WriteOutsValue → Option Stage
current_stage outs = option_and_then next_stage (current outs.batches)

-- The write-out that makes the next step, and the device work of that step. `bytes` are the bytes of the record, if the
-- step writes one.
abbrev pub outs_moving : WriteOutsValue → Option WriteOut
outs_moving outs = moving (shares_syncs outs.geometry.layout) outs.batches

abbrev pub next_work : WriteOutsValue → List ℕ → Work
next_work outs bytes =
    if outs.broken then Nothing else option_map_or (work_of outs.geometry bytes) (outs_moving outs) Nothing

-- What that step answers if no device call fails.
abbrev pub next_answer : WriteOutsValue → Flushed
next_answer outs = if outs.broken then Broken else option_map_or answer_of (outs_moving outs) Broken

-- The write-outs after a step with this answer. A write-out that is done is the oldest, and is removed.
abbrev pub batches_after : Bool → Flushed → List WriteOut → List WriteOut
batches_after shares Device batches = batches
batches_after shares Broken batches = batches
batches_after shares (Done mark) batches = drop 1 (moved shares batches)
batches_after shares answer batches = moved shares batches

-- The value after a step with this answer.
abbrev pub outs_after : WriteOutsValue → Flushed → WriteOutsValue
outs_after outs answer = record outs {
  batches = batches_after (shares_syncs outs.geometry.layout) answer outs.batches;
  broken = broken_after answer outs.broken;
}

-- The place of the record that the next step writes, if it writes one, and its home block. None if a device call has
-- failed.
abbrev pub outs_record : WriteOutsValue → Option ℕ
outs_record outs = if outs.broken then None else option_and_then next_record (outs_moving outs)

abbrev pub outs_home : WriteOutsValue → Option ℕ
outs_home outs = if outs.broken then None else option_and_then next_home (outs_moving outs)

-- Rule: busy: A commit can't begin while the previous one isn't committed, or while all journals are in use.
-- No further batch may begin: one isn't committed, or each journal has a batch.
abbrev pub is_busy : WriteOutsValue → Bool
is_busy outs = has_uncommitted outs.batches || length outs.batches == journals_of outs.geometry.layout

-- The journal that is used after this one.
abbrev pub following : Layout → ℕ → ℕ
following layout journal = if journal + 1 == journals_of layout then 0 else journal + 1

-- The batch that begins now, with this mark.
abbrev pub next_batch : WriteOutsValue → ℕ → List ℕ → Batch
next_batch outs mark homes = record { journal = outs.next; mark = mark; homes = homes }

-- The value after that batch has begun.
abbrev pub begun : WriteOutsValue → ℕ → List ℕ → WriteOutsValue
begun outs mark homes = record outs {
  next = following outs.geometry.layout outs.next;
  batches = outs.batches ++ begun_of outs.geometry.slots (next_batch outs mark homes) ∷ [];
}

-- The home block belongs to an unfinished batch.
abbrev pub HasBlock : WriteOutsValue → ℕ → Type 0
HasBlock outs block = (w : WriteOut) × Contains outs.batches w × Contains w.batch.homes block
