-- The rules of every value of `WriteOuts`.
use Rattle.std.specs.Prelude.{ℕ, ◌≡◌, ◌≢◌, ◌<◌, ◌≤◌, ◌⊎◌, true, List, [], ◌∷◌, length, Some, IsSome}
use Rattle.std.specs.List.{AllByRecursion}
use Rattle.volume_codec.specs.declared.layout.Layout.{Layout}
use Rattle.volume_codec.specs.Layout.{GeometryValue, IsGeometry, journals_of, descriptor_blocks}
use Rattle.journal.specs.declared.stage.Stage.TheVariants.{Applying}
use Rattle.journal.specs.WriteOut.{WriteOut, next_stage, has_committed}
use Rattle.journal.specs.WriteOut.{IsBatch}
use Rattle.journal.specs.WriteOuts.{WriteOutsValue, shares_syncs, is_at, following}
use Rattle.journal.specs.inside.Tied.{is_applying, is_applied, is_recorded}

-- The rules of every write-out in a volume of this geometry.
pub record IsFlush (g : GeometryValue) (w : WriteOut) : Type 0 where
  pub few_slots : g.slots ≤ 65535
  pub is_batch : IsBatch g w.batch
  pub described : w.described ≡ descriptor_blocks g.slots

-- An unfinished write-out.
pub record IsWriteOut (g : GeometryValue) (w : WriteOut) : Type 0 where
  pub batch : IsBatch g w.batch
  pub described : w.described ≡ descriptor_blocks g.slots
  pub going : IsSome (next_stage w)

-- One write-out is older than another. Its mark is smaller, its journal is another one, and its batch is committed. If
-- the newer batch is committed too, either none of it is applied yet, or it is being applied and the older one's home
-- blocks are durable.
pub record IsOlder (older newer : WriteOut) : Type 0 where
  pub marks : older.batch.mark < newer.batch.mark
  pub journals : older.batch.journal ≢ newer.batch.journal
  pub committed : has_committed older ≡ true
  pub waits : has_committed newer ≡ true
      → (next_stage newer ≡ Some (Applying 0)) ⊎ ((is_at is_applying newer ≡ true) × (is_at is_applied older ≡ true))

-- Each write-out is older than all that follow it.
abbrev pub AreInOrder : List WriteOut → Type 0
AreInOrder [] = Unit {0}
AreInOrder (w ∷ newer) = AllByRecursion (IsOlder w) newer × AreInOrder newer

-- If the records of the newer one are durable, the home blocks of the older one are, too.
abbrev pub IsSpaced : WriteOut → WriteOut → Type 0
IsSpaced older newer = is_at is_recorded newer ≡ true → is_at is_applied older ≡ true

-- Each pair of write-outs is spaced, as is required if syncs are shared.
abbrev pub AreSpaced : List WriteOut → Type 0
AreSpaced [] = Unit {0}
AreSpaced (w ∷ newer) = AllByRecursion (IsSpaced w) newer × AreSpaced newer

-- These batches use the journals in turn, from `journal` on. The next batch uses the one after theirs.
abbrev pub AreInTurn : Layout → ℕ → ℕ → List WriteOut → Type 0
AreInTurn layout next journal [] = next ≡ journal
AreInTurn layout next journal (w ∷ newer) =
    (w.batch.journal ≡ journal) × AreInTurn layout next (following layout journal) newer

-- The batches use the journals in turn, from that of the oldest batch on.
abbrev pub IsTurn : Layout → ℕ → List WriteOut → Type 0
IsTurn layout next [] = Unit {0}
IsTurn layout next (w ∷ newer) = AreInTurn layout next (following layout w.batch.journal) newer

-- The rules of the write-outs of a volume of this geometry. The next batch uses the journal `next`.
pub record AreSound (g : GeometryValue) (next : ℕ) (batches : List WriteOut) : Type 0 where
  pub geometry : IsGeometry g
  pub there : next < journals_of g.layout
  pub few : length batches ≤ journals_of g.layout
  pub each : AllByRecursion (IsWriteOut g) batches
  pub ordered : AreInOrder batches
  pub spaced : shares_syncs g.layout ≡ true → AreSpaced batches
  pub turn : IsTurn g.layout next batches

abbrev pub IsSound : WriteOutsValue → Type 0
IsSound outs = AreSound outs.geometry outs.next outs.batches
