-- The descriptor of a journal, in one block or more: the mark that its records commit, and the home block of each
-- record.
use Rattle.std.specs.Prelude.{◌≡◌, ℕ, ◌+◌, ◌*◌, ◌<◌, ◌≤◌, ◌^◌, List, [], ◌∷◌, ◌++◌, length}
use Rattle.std.specs.List.{flat_map}
use Rattle.volume_codec.specs.Layout.{GeometryValue, first_home, descriptor_blocks}
use Rattle.volume_codec.specs.Text.{number_text, zeros, padded}

-- the content of a descriptor: the number of its mark, and the home block of each record, in order
pub record DescriptorValue : Type 0 where
  pub mark : ℕ
  pub homes : List ℕ

-- the only encoding of a value, in the descriptor blocks of a journal with this number of slots
abbrev pub descriptor_text : ℕ → DescriptorValue → List ℕ
descriptor_text slots d =
    padded (4096 * descriptor_blocks slots)
    (number_text 8 d.mark ++ number_text 4 (length d.homes) ++ zeros 4 ++ flat_map (number_text 4) d.homes)

-- The numbers rise strictly. They are at least `low`, and below `high`.
abbrev pub RiseWithin : ℕ → ℕ → List ℕ → Type 0
RiseWithin low high [] = Unit {0}
RiseWithin low high (n ∷ ns) = (low ≤ n) × (n < high) × RiseWithin (n + 1) high ns

-- The home blocks of a descriptor. There are at least 1, and at most one for each slot. They rise strictly, and are
-- home blocks of the volume.
pub record AreHomes (g : GeometryValue) (homes : List ℕ) : Type 0 where
  pub some : 0 < length homes
  pub few : length homes ≤ g.slots
  pub rising : RiseWithin (first_home g.layout g.slots) g.blocks homes

-- The rules for the content of a descriptor: a mark from 1 to 2 ^ 64 - 1, and valid home blocks.
pub record IsDescribed (g : GeometryValue) (d : DescriptorValue) : Type 0 where
  pub some_mark : 0 < d.mark
  pub small_mark : d.mark < 2 ^ 64
  pub homes : AreHomes g d.homes

-- The grammar of descriptors: in a volume of this geometry, the bytes are the encoding of this value.
pub record IsDescriptor (g : GeometryValue) (d : DescriptorValue) (bytes : List ℕ) : Type 0 where
  pub described : IsDescribed g d
  pub spelled : bytes ≡ descriptor_text g.slots d
