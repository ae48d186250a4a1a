-- What the bytes of a volume recover to, and which bytes are no volume. The contents of a volume are a function from a
-- home block's number to the bytes of that block.
use Rattle.std.specs.Prelude.{◌≡◌, ◌≢◌, ℕ, zero, suc, ◌+◌, ◌*◌, ◌<◌, ◌≤◌, ◌==◌, if◌then◌else◌}
use Rattle.std.specs.Prelude.{◌⊎◌, Bool, true, List, [], ◌∷◌, ◌++◌, length, take, slice_index}
use Rattle.std.specs.List.{AllByRecursion, list_any}
use Rattle.volume_codec.specs.declared.layout.Layout.{Layout}
use Rattle.volume_codec.specs.Files.{File, TableFile}
use Rattle.volume_codec.specs.Layout.{GeometryValue, IsHome, magic_of, journals_of, gate_block, descriptor_block}
use Rattle.volume_codec.specs.Layout.{descriptor_blocks, record_block, first_file_home, block_at, blocks_at}
use Rattle.volume_codec.specs.Super.{SuperValue, IsSuper, pages_of, block_count, geometry_of}
use Rattle.volume_codec.specs.Descriptor.{IsDescriptor}
use Rattle.volume_codec.specs.Lengths.{lengths_in, HasLengths}

-- Rule: gate byte: A gate is open if its block begins with 0xA7, and closed if it begins with any other byte.
-- The gate of journal j is open.
abbrev pub IsOpen : List ℕ → ℕ → ℕ → Type 0
IsOpen bytes slots j = slice_index bytes (4096 * gate_block slots j) ≡ 0xA7

-- a batch of blocks: the journal that contains their records, the mark that commits them, and their home blocks in the
-- order of the records
pub record Batch : Type 0 where
  pub journal : ℕ
  pub mark : ℕ
  pub homes : List ℕ

-- An open journal in these bytes contains the batch.
pub record IsOpenBatch (g : GeometryValue) (bytes : List ℕ) (batch : Batch) : Type 0 where
  pub there : batch.journal < journals_of g.layout
  pub gate : IsOpen bytes g.slots batch.journal
  pub descriptor : IsDescriptor g (record { mark = batch.mark; homes = batch.homes })
      (blocks_at bytes (descriptor_block g.slots batch.journal) (descriptor_blocks g.slots))

-- Rule: equal marks: A volume is damaged if two of its open journals have the same mark.
-- Each batch has a greater mark than the next one, so the newest batch is the first.
abbrev pub IsNewer : Batch → List Batch → Type 0
IsNewer batch [] = Unit {0}
IsNewer batch (next ∷ older) = next.mark < batch.mark

abbrev pub AreFalling : List Batch → Type 0
AreFalling [] = Unit {0}
AreFalling (batch ∷ older) = IsNewer batch older × AreFalling older

-- whether one of the batches is in this journal
abbrev pub has_journal : List Batch → ℕ → Bool
has_journal batches j = list_any (λ batch. batch.journal == j) batches

-- These are the batches of the open journals, each once, the newest first. If two open journals have the same mark,
-- there is no such list.
pub record AreOpen (g : GeometryValue) (batches : List Batch) (bytes : List ℕ) : Type 0 where
  pub each : AllByRecursion (IsOpenBatch g bytes) batches
  pub all : (j : ℕ) → j < journals_of g.layout → IsOpen bytes g.slots j → has_journal batches j ≡ true
  pub falling : AreFalling batches

-- The record block of home block b, in a batch whose records begin at block `records`. If the batch has no record of
-- it, this is the block `other`.
abbrev pub record_or : ℕ → ℕ → List ℕ → ℕ → ℕ
record_or other records [] b = other
record_or other records (home ∷ homes) b = if b == home then records else record_or other (records + 1) homes b

-- Rule: recovered lengths: The newest open journal with a record of the lengths determines the files' lengths. If there
-- is none, the lengths block does.
-- the block with the recovered bytes of home block b: its record in the newest batch that has one, or else b itself
abbrev pub recovered_block : ℕ → List Batch → ℕ → ℕ
recovered_block slots [] b = b
recovered_block slots (batch ∷ older) b =
    record_or (recovered_block slots older b) (record_block slots batch.journal 0) batch.homes b

-- the contents that these bytes recover to, if these are the batches of the open journals
abbrev pub contents_in : ℕ → List Batch → List ℕ → ℕ → List ℕ
contents_in slots batches bytes b = block_at bytes (recovered_block slots batches b)

-- The bytes contain a volume with this super block, and these are the batches of its open journals.
pub record IsVolume (v : SuperValue) (batches : List Batch) (bytes : List ℕ) : Type 0 where
  pub super_block : IsSuper v (block_at bytes 0)
  pub long : 4096 * block_count v ≤ length bytes
  pub journals : AreOpen (geometry_of v) batches bytes

-- The bytes contain a volume with this super block, which recovers to these contents.
pub record Recovers (v : SuperValue) (contents : ℕ → List ℕ) (bytes : List ℕ) : Type 0 where
  pub batches : List Batch
  pub volume : IsVolume v batches bytes
  pub contents_are : (b : ℕ) → IsHome (geometry_of v) b → contents b ≡ contents_in v.slots batches bytes b

-- n blocks from block b on, one after another
abbrev pub blocks_from : (ℕ → List ℕ) → ℕ → ℕ → List ℕ
blocks_from contents b zero = []
blocks_from contents b (suc n) = contents b ++ blocks_from contents (b + 1) n

-- the files with these lengths, whose home blocks begin at block b
abbrev pub files_from : (ℕ → List ℕ) → ℕ → List TableFile → List ℕ → List File
files_from contents b (f ∷ fs) (n ∷ lengths) =
    record { name = f.name; bytes = take n (blocks_from contents b (pages_of f.capacity)); capacity = f.capacity }
    ∷ files_from contents (b + pages_of f.capacity) fs lengths
files_from contents b fs lengths = []

-- the files in these contents
abbrev pub files_in : SuperValue → (ℕ → List ℕ) → List File
files_in v contents = files_from contents (first_file_home v.layout v.slots) v.files (lengths_in v contents)

-- A device with these bytes recovers to these files, and their lengths are valid.
pub record RecoversTo (bytes : List ℕ) (files : List File) : Type 0 where
  pub table : SuperValue
  pub contents : ℕ → List ℕ
  pub recovers : Recovers table contents bytes
  pub lengths : HasLengths table contents
  pub files_are : files ≡ files_in table contents

-- Rule: notavolume: Bytes aren't a volume if they are fewer than a block, or don't begin with a layout's magic.
-- The bytes are no volume: they are too few for a super block, or begin with the magic of no layout.
abbrev pub IsNotAVolume : List ℕ → Type 0
IsNotAVolume bytes = (length bytes < 4096) ⊎ ((layout : Layout) → take 8 bytes ≢ magic_of layout)

-- Rule: damaged: Bytes are a damaged volume if they begin with a layout's magic, but break another rule of the layout.
-- The bytes are a damaged volume: they begin like a volume, but recover to no files.
pub record IsDamaged (bytes : List ℕ) : Type 0 where
  pub long : 4096 ≤ length bytes
  pub layout : Layout
  pub magic : take 8 bytes ≡ magic_of layout
  pub lost : (files : List File) → RecoversTo bytes files → ⊥
