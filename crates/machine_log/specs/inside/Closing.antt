-- Kept blocks that contain a descriptor, and a batch that is completely written home.
use Rattle.std.specs.Prelude.{◌≡◌, ◌⊎◌, ℕ, ◌+◌, ◌*◌, ◌<◌, List, [], ◌∷◌, ◌++◌, length, Some, false, slice_index}
use Rattle.volume_codec.specs.Layout.{block_at, descriptor_block, descriptor_blocks, record_block}
use Rattle.volume_codec.specs.Recovery.{Batch, has_journal}
use Rattle.kept_blocks.specs.Blocks.{Blocks, bytes_in}
use Rattle.machine_log.specs.Shown.{ShownValue, HasHomeBlock}

-- The bytes are those of n consecutive kept blocks, from block `first` on.
pub record HasTextUpTo (blocks : Blocks) (first n : ℕ) (bytes : List ℕ) : Type 0 where
  pub long : length bytes ≡ 4096 * n
  pub each : (i : ℕ) → i < n → bytes_in blocks (first + i) ≡ Some (block_at bytes i)

-- The bytes are the kept blocks of this journal's descriptor.
abbrev pub HasText : ShownValue → ℕ → List ℕ → Type 0
HasText s journal bytes =
    HasTextUpTo s.blocks (descriptor_block s.geometry.slots journal) (descriptor_blocks s.geometry.slots) bytes

-- Each of the first n home blocks of the batch contains its record's bytes, or a newer batch has a record of it.
abbrev pub AreHomeUpTo : ShownValue → List Batch → Batch → ℕ → Type 0
AreHomeUpTo s newer oldest n = (i : ℕ) → i < n
    → HasHomeBlock newer (slice_index oldest.homes i)
    ⊎ ((block : List ℕ) × (bytes_in s.blocks (slice_index oldest.homes i) ≡ Some block)
    × (bytes_in s.blocks (record_block s.geometry.slots oldest.journal i) ≡ Some block))

abbrev pub AreHomeBy : ShownValue → List Batch → Batch → Type 0
AreHomeBy s newer oldest = AreHomeUpTo s newer oldest (length oldest.homes)

-- The oldest batch is the only one in this journal, and it is written home (`AreHomeBy`).
pub record ClosesOldest (s : ShownValue) (journal : ℕ) : Type 0 where
  pub newer : List Batch
  pub oldest : Batch
  pub parts : s.opened ≡ newer ++ oldest ∷ []
  pub journal_is : oldest.journal ≡ journal
  pub alone : has_journal newer journal ≡ false
  pub home : AreHomeBy s newer oldest
