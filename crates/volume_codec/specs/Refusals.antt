-- The refusals of functions that read blocks, or make a table.
use Rattle.std.specs.Prelude.{◌≡◌, ◌≢◌, List, ℕ, take}
use Rattle.page_entry.specs.declared.refusal.Refusal.{Refusal}
use Rattle.page_entry.specs.declared.refusal.Refusal.TheVariants.{OutOfMemory, NotAVolume, Damaged, BadShape}
use Rattle.volume_codec.specs.declared.layout.Layout.{Layout}
use Rattle.volume_codec.specs.Files.{AskedFile}
use Rattle.volume_codec.specs.Layout.{GeometryValue, magic_of}
use Rattle.volume_codec.specs.Super.{SuperValue, IsSuper, IsAsked}
use Rattle.volume_codec.specs.Descriptor.{DescriptorValue, IsDescriptor}
use Rattle.volume_codec.specs.Lengths.{IsLengths}

-- `BadShape`: no table is the requested one. Memory may be refused only if there is such a table.
abbrev pub RefusesTable : ℕ → List AskedFile → ℕ → Refusal → Type 0
RefusesTable layout files slots BadShape = (v : SuperValue) → IsAsked layout files slots v → ⊥
RefusesTable layout files slots OutOfMemory = (v : SuperValue) × IsAsked layout files slots v
RefusesTable layout files slots _ = ⊥

-- `NotAVolume`: the block begins with the magic of no layout. `Damaged`: it begins with the magic of a layout, but is
-- the encoding of no value. Memory may be refused for any block.
abbrev pub RefusesSuper : List ℕ → Refusal → Type 0
RefusesSuper block NotAVolume = (layout : Layout) → take 8 block ≢ magic_of layout
RefusesSuper block Damaged = (layout : Layout) × (take 8 block ≡ magic_of layout)
    × ((v : SuperValue) → IsSuper v block → ⊥)
RefusesSuper block OutOfMemory = Unit {0}
RefusesSuper block _ = ⊥

-- `Damaged`: in a volume of this geometry, the bytes are the encoding of no value. Memory may be refused for any bytes.
abbrev pub RefusesDescriptor : GeometryValue → List ℕ → Refusal → Type 0
RefusesDescriptor g bytes Damaged = (d : DescriptorValue) → IsDescriptor g d bytes → ⊥
RefusesDescriptor g bytes OutOfMemory = Unit {0}
RefusesDescriptor g bytes _ = ⊥

-- `Damaged`: in a volume with this table, the block is the encoding of no lengths. Memory may be refused for any block.
abbrev pub RefusesLengths : SuperValue → List ℕ → Refusal → Type 0
RefusesLengths v block Damaged = (lengths : List ℕ) → IsLengths v lengths block → ⊥
RefusesLengths v block OutOfMemory = Unit {0}
RefusesLengths v block _ = ⊥
