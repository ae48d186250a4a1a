-- What bytes recover to, by the batches of their open journals, and which blocks recovery doesn't read.
use Rattle.std.specs.Prelude.{ℕ, ◌≡◌, ◌≢◌, ◌+◌, ◌<◌, List}
use Rattle.std.specs.List.{AllByRecursion}
use Rattle.volume_codec.specs.Layout.{IsHome, journals_of, gate_block, descriptor_block, descriptor_blocks}
use Rattle.volume_codec.specs.Super.{SuperValue, geometry_of}
use Rattle.volume_codec.specs.Recovery.{Batch, IsVolume, recovered_block, contents_in}

-- `bytes` contain a volume with the super block `v`, and recover to `contents`. `opened` are the batches of its open
-- journals.
pub record RecoversBy (v : SuperValue) (opened : List Batch) (contents : ℕ → List ℕ) (bytes : List ℕ) : Type 0 where
  pub volume : IsVolume v opened bytes
  pub contents_are : (b : ℕ) → IsHome (geometry_of v) b → contents b ≡ contents_in v.slots opened bytes b

-- Recovery of such a volume doesn't read this block.
pub record IsUnread (v : SuperValue) (opened : List Batch) (block : ℕ) : Type 0 where
  pub not_super : block ≢ 0
  pub not_gate : (j : ℕ) → j < journals_of v.layout → block ≢ gate_block v.slots j
  pub not_descriptor : AllByRecursion
      (λ batch. (i : ℕ) → i < descriptor_blocks v.slots → block ≢ descriptor_block v.slots batch.journal + i) opened
  pub not_recovered : (b : ℕ) → IsHome (geometry_of v) b → block ≢ recovered_block v.slots opened b
