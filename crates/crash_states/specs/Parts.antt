-- Which part of a volume a block is. Journals, their record slots, and files are counted from 0.
use Rattle.std.specs.Prelude.{ℕ, ◌≡◌, ◌+◌, ◌<◌, ◌≤◌, length, slice_index}
use Rattle.volume_codec.specs.Layout.{journals_of, gate_block, descriptor_block, descriptor_blocks, record_block}
use Rattle.volume_codec.specs.Layout.{first_home}
use Rattle.volume_codec.specs.Super.{SuperValue, capacities_in, pages_of, first_home_of, block_count}
use Rattle.crash_states.specs.declared.part.Part.{Part}
use Rattle.crash_states.specs.declared.part.Part.TheVariants.{Super, Gate, Descriptor, Record, Home, Page, Outside}
use Rattle.crash_states.specs.declared.part.Part.TheVariants.{Selector, Start, Log}

-- The block is the home block of this page of this file.
pub record IsHomeOf (v : SuperValue) (file page block : ℕ) : Type 0 where
  pub there : file < length v.files
  pub within : page < pages_of (slice_index (capacities_in v) file)
  pub placed : block ≡ first_home_of v file + page

-- The block is a home block, but of no page of a file.
pub record IsOfNoFile (v : SuperValue) (block : ℕ) : Type 0 where
  pub low : first_home v.layout v.slots ≤ block
  pub high : block < block_count v
  pub none : (file page : ℕ) → IsHomeOf v file page block → ⊥

-- The block is this part of a volume with journals and this table.
abbrev pub IsPartOf : SuperValue → ℕ → Part → Type 0
IsPartOf v block Super = block ≡ 0
IsPartOf v block (Gate j) = (j < journals_of v.layout) × (block ≡ gate_block v.slots j)
IsPartOf v block (Descriptor j) = (j < journals_of v.layout) × (descriptor_block v.slots j ≤ block)
    × (block < descriptor_block v.slots j + descriptor_blocks v.slots)
IsPartOf v block (Record j i) = (j < journals_of v.layout) × (i < v.slots) × (block ≡ record_block v.slots j i)
IsPartOf v block (Home b) = (b ≡ block) × IsOfNoFile v block
IsPartOf v block (Page file page) = IsHomeOf v file page block
IsPartOf v block Outside = block_count v ≤ block
IsPartOf v block Selector = ⊥
IsPartOf v block (Start i) = ⊥
IsPartOf v block (Log p) = ⊥
