-- A volume for which only the written blocks are kept, and what it recovers to.
use Rattle.std.specs.Prelude.{◌≡◌, ◌≢◌, ◌⊎◌, ℕ, ◌+◌, ◌*◌, ◌<◌, List, [], ◌∷◌, length, Some, false, slice_index}
use Rattle.std.specs.List.{Contains}
use Rattle.device.specs.Device.{written}
use Rattle.volume_codec.specs.Layout.{GeometryValue, block_at, journals_of, gate_block}
use Rattle.volume_codec.specs.Layout.{descriptor_block, descriptor_blocks, record_block}
use Rattle.volume_codec.specs.Descriptor.{descriptor_text}
use Rattle.volume_codec.specs.Super.{SuperValue, block_count, geometry_of}
use Rattle.volume_codec.specs.Recovery.{Batch, IsVolume, IsNewer, has_journal}
use Rattle.kept_blocks.specs.Blocks.{Blocks, bytes_in}
use Rattle.journal.specs.Recovered.{RecoversBy}
use Rattle.journal.specs.WriteOut.{IsBatch}

-- the geometry of the volume, the kept blocks, and the batches of its open journals, the newest first
pub record ShownValue : Type 0 where
  pub geometry : GeometryValue
  pub blocks : Blocks
  pub opened : List Batch

-- The block is no gate.
abbrev pub IsNoGate : GeometryValue → ℕ → Type 0
IsNoGate g b = (j : ℕ) → j < journals_of g.layout → b ≢ gate_block g.slots j

-- The bytes are those of the volume. Its open journals contain these batches, and the gates of the other journals are
-- zero. Each kept block is no gate, and has the same bytes in the volume.
pub record HasShown (t : SuperValue) (s : ShownValue) (bytes : List ℕ) : Type 0 where
  pub geometry : s.geometry ≡ geometry_of t
  pub long : length bytes ≡ 4096 * block_count t
  pub volume : IsVolume t s.opened bytes
  pub closed : (j : ℕ) → j < journals_of s.geometry.layout → has_journal s.opened j ≡ false
      → slice_index bytes (4096 * gate_block s.geometry.slots j) ≡ 0
  pub kept : (b : ℕ) (block : List ℕ) → bytes_in s.blocks b ≡ Some block
      → IsNoGate s.geometry b × (block_at bytes b ≡ block)

-- After a call, the changed bytes are those of the volume, and recover to the same contents.
pub record StaysShown (old new : ShownValue) (change : List ℕ → List ℕ) : Type 0 where
  pub shown : (t : SuperValue) (bytes : List ℕ) → HasShown t old bytes → HasShown t new (change bytes)
  pub recovers : (t : SuperValue) (bytes : List ℕ) (contents : ℕ → List ℕ) → HasShown t old bytes
      → RecoversBy t old.opened contents bytes → RecoversBy t new.opened contents (change bytes)

-- One of these batches has a record of the home block.
abbrev pub HasHomeBlock : List Batch → ℕ → Type 0
HasHomeBlock [] b = ⊥
HasHomeBlock (batch ∷ older) b = Contains batch.homes b ⊎ HasHomeBlock older b

-- The block belongs to this journal's descriptor, or is one of its record slots.
abbrev pub IsOfJournal : GeometryValue → ℕ → ℕ → Type 0
IsOfJournal g j b =
    ((i : ℕ) × (i < descriptor_blocks g.slots) × (b ≡ descriptor_block g.slots j + i))
    ⊎ ((i : ℕ) × (i < g.slots) × (b ≡ record_block g.slots j i))

-- The block belongs to no journal's descriptor, and is no record slot.
abbrev pub IsOfNoJournal : GeometryValue → ℕ → Type 0
IsOfNoJournal g b = (j : ℕ) → j < journals_of g.layout → IsOfJournal g j b → ⊥

-- Recovery doesn't read the block. It belongs to a closed journal, or an open journal has a record of it.
abbrev pub IsAdmitted : ShownValue → ℕ → Type 0
IsAdmitted s b =
    ((j : ℕ) × (j < journals_of s.geometry.layout) × (has_journal s.opened j ≡ false) × IsOfJournal s.geometry j b)
    ⊎ HasHomeBlock s.opened b

-- The journal of the batch is closed, and the batch is newer than those of the open journals. The kept blocks contain
-- its descriptor.
pub record MayOpen (s : ShownValue) (batch : Batch) : Type 0 where
  pub is_batch : IsBatch s.geometry batch
  pub newer : IsNewer batch s.opened
  pub closed : has_journal s.opened batch.journal ≡ false
  pub described : (i : ℕ) → i < descriptor_blocks s.geometry.slots
      → bytes_in s.blocks (descriptor_block s.geometry.slots batch.journal + i)
      ≡ Some (block_at (descriptor_text s.geometry.slots (record { mark = batch.mark; homes = batch.homes })) i)

-- The contents `new` are `old` with the records of the batch. The records are kept.
pub record HasRecords (s : ShownValue) (batch : Batch) (old new : ℕ → List ℕ) : Type 0 where
  pub records : (i : ℕ) → i < length batch.homes
      → bytes_in s.blocks (record_block s.geometry.slots batch.journal i) ≡ Some (new (slice_index batch.homes i))
  pub others : (b : ℕ) → (Contains batch.homes b → ⊥) → new b ≡ old b

-- After the batch's gate is opened, the changed bytes are those of the volume. They recover to the contents with the
-- batch's records.
pub record OpensShown (old : ShownValue) (batch : Batch) (new : ShownValue) : Type 0 where
  pub shown : (t : SuperValue) (bytes : List ℕ) → HasShown t old bytes
      → HasShown t new (written bytes (4096 * gate_block old.geometry.slots batch.journal) (0xA7 ∷ []))
  pub recovers : (t : SuperValue) (bytes : List ℕ) (before after : ℕ → List ℕ) → HasShown t old bytes
      → RecoversBy t old.opened before bytes → HasRecords old batch before after
      → RecoversBy t new.opened after
      (written bytes (4096 * gate_block old.geometry.slots batch.journal) (0xA7 ∷ []))
