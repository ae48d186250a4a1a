-- Where the parts of a volume are. A block has 4,096 bytes, and block i begins at byte 4,096 * i. Block 0 is the super
-- block. The journals follow. Each consists of a gate block, the blocks of its descriptor, and its record slots. The
-- home blocks follow the journals.
use Rattle.std.specs.Prelude.{ℕ, ◌+◌, ◌-◌, ◌*◌, ◌/◌, ◌<◌, ◌≤◌, ◌^◌, List, codes, take, drop}
use Rattle.volume_codec.specs.declared.layout.Layout.{Layout}
use Rattle.volume_codec.specs.declared.layout.Layout.TheVariants.{One, Two, Three, Four}

-- the number by which users request a layout
abbrev pub number_of : Layout → ℕ
number_of One = 1
number_of Two = 2
number_of Three = 3
number_of Four = 4

-- the eight bytes at the beginning of a super block in this layout
abbrev pub magic_of : Layout → List ℕ
magic_of One = codes "FAMSYNC1"
magic_of Two = codes "FAMSYNC2"
magic_of Three = codes "FAMSYNC3"
magic_of Four = codes "FAMSYNC4"

-- the number of journals, which are counted from 0
abbrev pub journals_of : Layout → ℕ
journals_of One = 1
journals_of Two = 2
journals_of Three = 2
journals_of Four = 4

-- the greatest number of record slots of a journal
abbrev pub max_slots : Layout → ℕ
max_slots One = 1020
max_slots Two = 1020
max_slots Three = 1020
max_slots Four = 65535

-- The number of blocks of a descriptor, in a journal with this number of slots. A descriptor has 16 bytes, and 4 for
-- each slot.
abbrev pub descriptor_blocks : ℕ → ℕ
descriptor_blocks slots = (4 * slots + 4111) / 4096

-- the number of blocks of a journal with this number of slots
abbrev pub journal_blocks : ℕ → ℕ
journal_blocks slots = 1 + descriptor_blocks slots + slots

-- the gate block of journal j, if each journal has this number of slots
abbrev pub gate_block : ℕ → ℕ → ℕ
gate_block slots j = 1 + j * journal_blocks slots

-- the first block of the descriptor of journal j
abbrev pub descriptor_block : ℕ → ℕ → ℕ
descriptor_block slots j = 2 + j * journal_blocks slots

-- record slot i of journal j
abbrev pub record_block : ℕ → ℕ → ℕ → ℕ
record_block slots j i = 2 + descriptor_blocks slots + j * journal_blocks slots + i

-- the first home block, which is the first that a descriptor may list
abbrev pub first_home : Layout → ℕ → ℕ
first_home layout slots = 1 + journals_of layout * journal_blocks slots

-- The number of home blocks that contain the lengths of the files. They are the first home blocks. In a layout without
-- them, a file is as long as its capacity.
abbrev pub lengths_blocks : Layout → ℕ
lengths_blocks One = 0
lengths_blocks Two = 0
lengths_blocks Three = 1
lengths_blocks Four = 1

-- the first home block of the files
abbrev pub first_file_home : Layout → ℕ → ℕ
first_file_home layout slots = first_home layout slots + lengths_blocks layout

-- The greatest number of frames of a machine. A batch needs a record slot for the page in each frame, and one for the
-- lengths if the layout has them.
abbrev pub max_frames : Layout → ℕ → ℕ
max_frames layout slots = slots - lengths_blocks layout

-- the geometry of a volume: its layout, the number of record slots of each journal, and its number of blocks
pub record GeometryValue : Type 0 where
  pub layout : Layout
  pub slots : ℕ
  pub blocks : ℕ

-- The block is a home block of the volume.
pub record IsHome (g : GeometryValue) (b : ℕ) : Type 0 where
  pub low : first_home g.layout g.slots ≤ b
  pub high : b < g.blocks

-- A volume may have this geometry. A journal has slots for the lengths and for at least one page, and at most the
-- layout's maximum. There is at least one home block of a file, and there are fewer than 2 ^ 32 blocks.
pub record IsGeometry (g : GeometryValue) : Type 0 where
  pub some_slots : lengths_blocks g.layout < g.slots
  pub few_slots : g.slots ≤ max_slots g.layout
  pub some_homes : first_file_home g.layout g.slots < g.blocks
  pub few_blocks : g.blocks < 2 ^ 32

-- block i of these bytes
abbrev pub block_at : List ℕ → ℕ → List ℕ
block_at bytes i = take 4096 (drop (4096 * i) bytes)

-- n blocks of these bytes from block i on
abbrev pub blocks_at : List ℕ → ℕ → ℕ → List ℕ
blocks_at bytes i n = take (4096 * n) (drop (4096 * i) bytes)
