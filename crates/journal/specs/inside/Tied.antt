-- How write-outs agree with the bytes of the device: what a read finds of each of them, and which blocks are loose. A
-- crash may leave any bytes in a loose block.
use Rattle.std.specs.Prelude.{ℕ, ◌≡◌, ◌≢◌, ◌+◌, ◌*◌, ◌<◌, ◌≤◌, ◌⊎◌, Bool, true, false, not, if◌then◌else◌}
use Rattle.std.specs.Prelude.{List, [], ◌∷◌, ◌++◌, length, slice_index, Contains, MatchBool}
use Rattle.std.specs.List.{AllByRecursion, list_any}
use Rattle.std.specs.Option.{option_map_or}
use Rattle.volume_codec.specs.Layout.{IsHome, journals_of, gate_block, descriptor_block, descriptor_blocks}
use Rattle.volume_codec.specs.Layout.{record_block, block_at}
use Rattle.volume_codec.specs.Descriptor.{descriptor_text}
use Rattle.volume_codec.specs.Super.{SuperValue, IsSuper, geometry_of, block_count}
use Rattle.volume_codec.specs.Recovery.{Batch, IsOpen, contents_in}
use Rattle.journal.specs.declared.stage.Stage.{Stage}
use Rattle.journal.specs.declared.stage.Stage.TheVariants.{Recording, Describing, SyncingRecords, Opening}
use Rattle.journal.specs.declared.stage.Stage.TheVariants.{Committing, Applying, SyncingHomes, Closing, Finishing}
use Rattle.journal.specs.Stage.{is_committed}
use Rattle.journal.specs.WriteOut.{WriteOut, next_stage}

-- The progress of a batch's write-out: the stage of its next step.
pub record Progress : Type 0 where
  pub batch : Batch
  pub stage : Stage

abbrev pub progress_of : WriteOut → List Progress
progress_of w = option_map_or (λ stage. record { batch = w.batch; stage = stage } ∷ []) (next_stage w) []

-- The progress of the unfinished write-outs, the oldest first.
abbrev pub progress_in : List WriteOut → List Progress
progress_in [] = []
progress_in (w ∷ newer) = progress_of w ++ progress_in newer

-- ---- what is loose at a stage

-- The records and the descriptor are loose: they were written since the last sync.
abbrev pub is_recording : Stage → Bool
is_recording Opening = false
is_recording Committing = false
is_recording stage = not (is_committed stage)

-- The gate is loose.
abbrev pub is_switching : Stage → Bool
is_switching Committing = true
is_switching Finishing = true
is_switching stage = false

-- The home blocks are loose.
abbrev pub is_applying : Stage → Bool
is_applying (Applying i) = true
is_applying SyncingHomes = true
is_applying stage = false

-- ---- what is durable at a stage

-- The records and the descriptor are durable.
abbrev pub is_recorded : Stage → Bool
is_recorded stage = not (is_recording stage)

-- All home blocks are durable, and the gate may still be open.
abbrev pub is_applied : Stage → Bool
is_applied Closing = true
is_applied Finishing = true
is_applied stage = false

-- Block `b` is a descriptor block or a record slot of journal `j`.
abbrev pub IsInJournal : ℕ → ℕ → ℕ → Type 0
IsInJournal slots j b =
    ((i : ℕ) × (i < descriptor_blocks slots) × (b ≡ descriptor_block slots j + i))
    ⊎ ((i : ℕ) × (i < slots) × (b ≡ record_block slots j i))

-- The block is firm for this write-out: the write-out doesn't make it loose.
pub record IsFirmFor (slots : ℕ) (p : Progress) (b : ℕ) : Type 0 where
  pub journal : is_recording p.stage ≡ true → IsInJournal slots p.batch.journal b → ⊥
  pub gate : is_switching p.stage ≡ true → b ≢ gate_block slots p.batch.journal
  pub home : is_applying p.stage ≡ true → Contains p.batch.homes b → ⊥

-- What a crash may leave: each block that is firm for all write-outs has the bytes that a read finds.
pub record IsLeft (slots : ℕ) (progress : List Progress) (seen c : List ℕ) : Type 0 where
  pub same_length : length c ≡ length seen
  pub firm : (b : ℕ) → AllByRecursion (λ p. IsFirmFor slots p b) progress → block_at c b ≡ block_at seen b

-- ---- what a read finds

-- The gate is open, and that is durable.
abbrev pub is_durable : Stage → Bool
is_durable Finishing = false
is_durable stage = is_committed stage

abbrev pub is_open : Stage → Bool
is_open Committing = true
is_open stage = is_durable stage

-- The batches whose open gates are durable, the newest first.
abbrev pub durable_in : List Progress → List Batch
durable_in [] = []
durable_in (p ∷ newer) = durable_in newer ++ (if is_durable p.stage then p.batch ∷ [] else [])

-- One of these batches has a record of block `b`.
abbrev pub IsCovered : List Batch → ℕ → Type 0
IsCovered [] b = ⊥
IsCovered (batch ∷ batches) b = Contains batch.homes b ⊎ IsCovered batches b

-- The number of records that are written before this stage, of `blocks` records. Once the batch is committed, the
-- number doesn't matter.
abbrev pub recorded : ℕ → Stage → ℕ
recorded blocks (Recording i) = i
recorded blocks (Describing i) = blocks
recorded blocks SyncingRecords = blocks
recorded blocks Opening = blocks
recorded blocks Committing = blocks
recorded blocks stage = 0

-- The number of descriptor blocks that are written before this stage, of `blocks` descriptor blocks.
abbrev pub described : ℕ → Stage → ℕ
described blocks (Recording i) = 0
described blocks (Describing i) = i
described blocks stage = blocks

-- The number of home blocks that are written before this stage, of `blocks` home blocks.
abbrev pub applied : ℕ → Stage → ℕ
applied blocks (Applying i) = i
applied blocks SyncingHomes = blocks
applied blocks Closing = blocks
applied blocks Finishing = blocks
applied blocks stage = 0

-- What a read finds of a write-out. `newer` are the newer batches whose open gates are durable.
pub record IsWritten (v : SuperValue) (new : ℕ → List ℕ) (newer : List Batch) (p : Progress) (seen : List ℕ) : Type 0
  where
    -- each record so far is the block of New
    pub records : (i : ℕ) → i < length p.batch.homes → i < recorded (length p.batch.homes) p.stage
        → block_at seen (record_block v.slots p.batch.journal i) ≡ new (slice_index p.batch.homes i)
    -- each descriptor block so far is that of the descriptor's text
    pub descriptor : (i : ℕ) → i < descriptor_blocks v.slots → i < described (descriptor_blocks v.slots) p.stage
        → block_at seen (descriptor_block v.slots p.batch.journal + i)
        ≡ block_at (descriptor_text v.slots (record { mark = p.batch.mark; homes = p.batch.homes })) i
    -- each home block so far equals its record, unless a newer batch has a record of it
    pub homes : (i : ℕ) → i < length p.batch.homes → i < applied (length p.batch.homes) p.stage
        → IsCovered newer (slice_index p.batch.homes i)
        ⊎ (block_at seen (slice_index p.batch.homes i) ≡ block_at seen (record_block v.slots p.batch.journal i))
    pub gate : MatchBool (is_open p.stage) (IsOpen seen v.slots p.batch.journal)
        (IsOpen seen v.slots p.batch.journal → ⊥)

abbrev pub AreWritten : SuperValue → (ℕ → List ℕ) → List ℕ → List Progress → Type 0
AreWritten v new seen [] = Unit {0}
AreWritten v new seen (p ∷ newer) = IsWritten v new (durable_in newer) p seen × AreWritten v new seen newer

-- A batch isn't committed.
abbrev pub is_under_way : List Progress → Bool
is_under_way progress = list_any (λ p. not (is_committed p.stage)) progress

-- The contents by the committed batches: New if each batch is committed, otherwise Old.
abbrev pub kept_in : List Progress → (ℕ → List ℕ) → (ℕ → List ℕ) → ℕ → List ℕ
kept_in progress old new = if is_under_way progress then old else new

-- What a read finds of the whole volume.
pub record IsSeen (v : SuperValue) (progress : List Progress) (old new : ℕ → List ℕ) (seen : List ℕ) : Type 0 where
  pub super_block : IsSuper v (block_at seen 0)
  pub long : 4096 * block_count v ≤ length seen
  pub written : AreWritten v new seen progress
  -- a journal without a write-out is closed
  pub shut : (j : ℕ) → j < journals_of v.layout → AllByRecursion (λ p. p.batch.journal ≢ j) progress
      → IsOpen seen v.slots j → ⊥
  pub contents : (b : ℕ) → IsHome (geometry_of v) b
      → kept_in progress old new b ≡ contents_in v.slots (durable_in progress) seen b
  -- outside the uncommitted batch, New is Old
  pub outside : AllByRecursion (λ p. is_committed p.stage ≡ false
      → (b : ℕ) → (Contains p.batch.homes b → ⊥) → new b ≡ old b) progress

-- The write-outs agree with a device of which no call failed. It reads `seen`, and a crash may leave the lists of
-- `may_leave`.
pub record IsTied (v : SuperValue) (batches : List WriteOut) (old new : ℕ → List ℕ) (seen : List ℕ)
    (may_leave : List ℕ → Type 0) : Type 0 where
  pub seen_is : IsSeen v (progress_in batches) old new seen
  pub left_are : (c : List ℕ) → may_leave c → IsLeft v.slots (progress_in batches) seen c
