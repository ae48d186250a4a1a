-- What a reading of open journals and lengths finds.
use Rattle.std.specs.Prelude.{◌≡◌, ◌⊎◌, ◌+◌, ◌*◌, ◌<◌, ℕ, zero, suc, true, List}
use Rattle.std.specs.Prelude.{[], ◌∷◌, length, sum_by, Result, Ok, Err}
use Rattle.std.specs.List.{AllByRecursion, insert}
use Rattle.page_entry.specs.declared.refusal.Refusal.{Refusal}
use Rattle.page_entry.specs.declared.refusal.Refusal.TheVariants.{OutOfMemory, Damaged}
use Rattle.volume_codec.specs.Layout.{GeometryValue, journals_of, block_at}
use Rattle.volume_codec.specs.Super.{SuperValue, IsSuper}
use Rattle.volume_codec.specs.Lengths.{IsLengths}
use Rattle.volume_codec.specs.Recovery.{Batch, IsOpenBatch, IsOpen, has_journal}
use Rattle.recovery.specs.Counts.{RisesWithin}
pub use Rattle.recovery.specs.Reading.{batch_of, batches_of, RefusesReading, RefusesJournal, RefusesJournals, AreFound}

-- the number of device calls that carry out these batches
abbrev pub carry_calls : List Batch → ℕ
carry_calls batches = sum_by (λ batch. 2 * length batch.homes + 3) batches

-- the number of device calls of an opening for these batches: one more for each, which reads its descriptor
abbrev pub carrying_all : List Batch → ℕ
carrying_all batches = sum_by (λ batch. 2 * length batch.homes + 4) batches

-- These are the batches of the open journals with numbers below `below`.
pub record AreRead (g : GeometryValue) (bytes : List ℕ) (below : ℕ) (batches : List Batch) : Type 0 where
  pub each : AllByRecursion (IsOpenBatch g bytes) batches
  pub low : AllByRecursion (λ batch. batch.journal < below) batches
  pub all : (j : ℕ) → j < below → IsOpen bytes g.slots j → has_journal batches j ≡ true

-- One of the batches has this mark.
abbrev pub HasMark : ℕ → List Batch → Type 0
HasMark mark [] = ⊥
HasMark mark (batch ∷ batches) = (batch.mark ≡ mark) ⊎ HasMark mark batches

-- `place` is the index at which a batch with this mark belongs: earlier marks are higher, and the next one, if any, is
-- lower.
abbrev pub IsPlaceOf : ℕ → List Batch → ℕ → Type 0
IsPlaceOf mark [] place = place ≡ 0
IsPlaceOf mark (batch ∷ batches) zero = batch.mark < mark
IsPlaceOf mark (batch ∷ batches) (suc place) = (mark < batch.mark) × IsPlaceOf mark batches place

-- The batch was inserted into the list, at the index of its mark.
abbrev pub IsAdded : Batch → List Batch → List Batch → Type 0
IsAdded batch old new = (place : ℕ) × IsPlaceOf batch.mark old place × (new ≡ insert old place batch)

-- A batch isn't added for this reason. `Damaged`: one of the others has its mark. `OutOfMemory` is always possible.
abbrev pub RefusesAdding : Batch → List Batch → Refusal → Type 0
RefusesAdding batch batches Damaged = HasMark batch.mark batches
RefusesAdding batch batches OutOfMemory = Unit {0}
RefusesAdding batch batches _ = ⊥

-- Reading a block of lengths is refused for this reason. `Damaged`: the block contains no lengths for this table.
abbrev pub RefusesStored : SuperValue → List ℕ → Refusal → Type 0
RefusesStored table block refusal = RefusesReading ((lengths : List ℕ) → IsLengths table lengths block → ⊥) refusal

-- The count of device calls rose at most by those that find the open batches of a device with these bytes.
abbrev pub JudgesWithin : List ℕ → ℕ → ℕ → Type 0
JudgesWithin bytes old new = RisesWithin 1 old new
    ⊎ ((table : SuperValue) × IsSuper table (block_at bytes 0)
    × RisesWithin (2 + 2 * journals_of table.layout) old new)

-- the table that an opening found, or the reason for which it was refused
abbrev pub table_found : {X : Type 0} → Result (SuperValue × X) Refusal → Result SuperValue Refusal
table_found (Ok found) = Ok found.0
table_found (Err refusal) = Err refusal
