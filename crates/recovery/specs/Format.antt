-- How formatting changes a device.
use Rattle.std.specs.Prelude.{◌≡◌, ◌⊎◌, ℕ, ◌+◌, ◌-◌, ◌*◌, ◌/◌, ◌<◌, ◌≤◌, List, length, map, replicate, slice_index}
use Rattle.device.specs.Device.{Torn, Only}
use Rattle.device.specs.declared.device.Device.{Ghosts}
use Rattle.page_entry.specs.declared.refusal.Refusal.{Refusal}
use Rattle.page_entry.specs.declared.refusal.Refusal.TheVariants.{Device, OutOfMemory, BadShape}
use Rattle.volume_codec.specs.Files.{File, AskedFile, lengths_asked}
use Rattle.volume_codec.specs.Layout.{journals_of, lengths_blocks, gate_block, first_home, first_file_home, block_at}
use Rattle.volume_codec.specs.Lengths.{lengths_text}
use Rattle.volume_codec.specs.Text.{zeros}
use Rattle.volume_codec.specs.Super.{SuperValue, IsSuper, IsAsked, block_count}

-- the requested files, with zeros as their bytes
abbrev pub zero_files : List AskedFile → List File
zero_files files = map (λ f. record { name = f.name; bytes = replicate f.length 0; capacity = f.capacity }) files

-- All blocks of a volume except block 0 are as formatting makes them. Each gate byte is 0. The lengths block, if there
-- is one, contains these lengths. Each home block of a file contains zeros.
pub record IsEmptied (table : SuperValue) (lengths : List ℕ) (bytes : List ℕ) : Type 0 where
  pub long : 4096 * block_count table ≤ length bytes
  pub gates : (j : ℕ) → j < journals_of table.layout → slice_index bytes (4096 * gate_block table.slots j) ≡ 0
  pub lengths_block : 0 < lengths_blocks table.layout
      → block_at bytes (first_home table.layout table.slots) ≡ lengths_text lengths
  pub homes : (b : ℕ) → first_file_home table.layout table.slots ≤ b → b < block_count table
      → block_at bytes b ≡ zeros 4096

-- The bytes are a volume as formatting makes it: its table is in block 0, and the rest is emptied, with these lengths.
pub record IsBlank (table : SuperValue) (lengths : List ℕ) (bytes : List ℕ) : Type 0 where
  pub super_block : IsSuper table (block_at bytes 0)
  pub rest : IsEmptied table lengths bytes

-- The table is the requested one, and a device of this many bytes is long enough for it.
pub record HasShape (layout : ℕ) (files : List AskedFile) (slots bytes : ℕ) (table : SuperValue) : Type 0 where
  pub asked : IsAsked layout files slots table
  pub long : 4096 * block_count table ≤ bytes

-- A crash may leave `c` while a volume is made on a device that a crash before might have left as one of `lists`. `c`
-- is one of `lists`, with other bytes only in the volume's blocks. Block 0 is as before, or the rest of the volume is
-- emptied.
pub record IsPartlyFormatted (table : SuperValue) (lengths : List ℕ) (lists : List ℕ → Type 0) (c : List ℕ)
    : Type 0 where
  pub before : List ℕ
  pub left : lists before
  pub within : Torn 0 (4096 * block_count table) before c
  pub first : (block_at c 0 ≡ block_at before 0) ⊎ IsEmptied table lengths c

-- A crash during formatting may leave `c`: bytes that it might have left before, or a partly formatted volume.
abbrev pub LeftByFormat : {D : Type 0} → Ghosts D → ℕ → List AskedFile → ℕ → D → List ℕ → Type 0
LeftByFormat disk layout files slots old c = disk.may_leave old c
    ⊎ ((table : SuperValue) × HasShape layout files slots (length (disk.seen old)) table
    × IsPartlyFormatted table (lengths_asked files) (disk.may_leave old) c)

-- The number of device calls of formatting. It writes zeros to 8 home blocks at a time, writes the lengths block if
-- there is one, and closes each gate. Then it syncs, writes block 0 and syncs.
abbrev pub format_calls : SuperValue → ℕ
format_calls table =
    (block_count table - first_home table.layout table.slots + 7) / 8 + lengths_blocks table.layout
    + journals_of table.layout + 3

-- An honest device was formatted. It is a volume with the requested table and lengths, and zeros in its files. All of
-- it is synced. The bytes past the volume are as before.
pub record HasFormatted {D : Type 0} (disk : Ghosts D) (layout : ℕ) (files : List AskedFile) (slots : ℕ) (old new : D)
    : Type 0 where
  pub table : SuperValue
  pub shape : HasShape layout files slots (length (disk.seen old)) table
  pub blank : IsBlank table (lengths_asked files) (disk.seen new)
  pub synced : Only (disk.may_leave new) (disk.seen new)
  pub past : (i : ℕ) → 4096 * block_count table ≤ i → slice_index (disk.seen new) i ≡ slice_index (disk.seen old) i

-- Formatting is refused for this reason. `BadShape`: there is no such volume, or the device is too short for it.
-- `OutOfMemory` and `Device` are possible with any other request.
abbrev pub RefusesFormat : ℕ → List AskedFile → ℕ → ℕ → Refusal → Type 0
RefusesFormat layout files slots bytes BadShape = (table : SuperValue) → HasShape layout files slots bytes table → ⊥
RefusesFormat layout files slots bytes OutOfMemory = (table : SuperValue) × HasShape layout files slots bytes table
RefusesFormat layout files slots bytes Device = (table : SuperValue) × HasShape layout files slots bytes table
RefusesFormat layout files slots bytes _ = ⊥
