-- What an inspection finds in a volume: its table, the lengths of its files, the content of each journal, and the
-- number of device calls that opening makes.
use Rattle.std.specs.Prelude.{ℕ, suc, ◌≡◌, ◌*◌, List, [], ◌∷◌, length, slice_index, MatchOption}
use Rattle.volume_codec.specs.Layout.{GeometryValue, gate_block, descriptor_block, descriptor_blocks}
use Rattle.volume_codec.specs.Layout.{journals_of, blocks_at}
use Rattle.volume_codec.specs.Descriptor.{IsDescriptor}
use Rattle.volume_codec.specs.Super.{geometry_of}
use Rattle.volume_codec.specs.Lengths.{lengths_in}
use Rattle.volume_codec.specs.Recovery.{Batch, IsOpen, IsVolume, Recovers, RecoversTo, files_in}
use Rattle.recovery.specs.Counts.{Rises}
use Rattle.recovery.specs.Opening.{opening_calls}
use Rattle.inspection.specs.declared.found.Journal.{Journal}
use Rattle.inspection.specs.declared.found.Found.{Found}

-- `journal` describes journal `j` in these bytes: the first byte of its gate, and its descriptor if the gate is open.
pub record IsJournal {Z : Type 0} (g : GeometryValue) (bytes : List ℕ) (j : ℕ) (journal : Journal Z) : Type 0 where
  pub number : journal.number ≡ j
  pub gate : journal.gate ≡ slice_index bytes (4096 * gate_block g.slots j)
  pub descriptor : MatchOption journal.descriptor (¬ (IsOpen bytes g.slots j))
      (λ d. IsOpen bytes g.slots j
      × IsDescriptor g d (blocks_at bytes (descriptor_block g.slots j) (descriptor_blocks g.slots)))

-- The list describes consecutive journals in these bytes, from journal `j` on.
abbrev pub AreFrom : {Z : Type 0} → GeometryValue → List ℕ → ℕ → List (Journal Z) → Type 0
AreFrom g bytes j [] = Unit {0}
AreFrom g bytes j (journal ∷ journals) = IsJournal g bytes j journal × AreFrom g bytes (suc j) journals

-- The list describes all journals in these bytes.
abbrev pub AreJournals : {Z : Type 0} → GeometryValue → List ℕ → List (Journal Z) → Type 0
AreJournals g bytes journals = (length journals ≡ journals_of g.layout) × AreFrom g bytes 0 journals

-- `found` describes the volume in `bytes`, which recover to files.
pub record IsFound {Z : Type 0} (bytes : List ℕ) (found : Found Z) : Type 0 where
  pub batches : List Batch
  pub volume : IsVolume found.table batches bytes
  pub journals : AreJournals (geometry_of found.table) bytes found.journals.items
  pub contents : ℕ → List ℕ
  pub recovers : Recovers found.table contents bytes
  pub lengths : found.lengths.items ≡ lengths_in found.table contents
  pub files : RecoversTo bytes (files_in found.table contents)
  -- the device calls of an opening, counted from 0
  pub calls : Rises (opening_calls found.table batches) 0 found.calls
