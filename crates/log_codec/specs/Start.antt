-- The two starts. A start contains the position of the log's first commit. The first byte of block 1 selects one of
-- them.
use Rattle.std.specs.Prelude.{◌≡◌, ℕ, ◌<◌, ◌^◌, ◌==◌, if◌then◌else◌, Bool, List, ◌++◌, slice_index}
use Rattle.volume_codec.specs.Layout.{block_at}
use Rattle.volume_codec.specs.Text.{number_text, padded}
use Rattle.log_codec.specs.declared.start.LogStart.{LogStart}

-- The only encoding of a start, in 4,096 bytes.
abbrev pub start_text : LogStart → List ℕ
start_text s = padded 4096 (number_text 8 s.number ++ number_text 8 s.epoch ++ number_text 4 s.position)

-- The rules of a start: a position of the log, and a number and an epoch that are at least 1 and below 2^64.
pub record IsLogStart (ring : ℕ) (s : LogStart) : Type 0 where
  pub within : s.position < ring
  pub some_number : 0 < s.number
  pub small_number : s.number < 2 ^ 64
  pub some_epoch : 0 < s.epoch
  pub small_epoch : s.epoch < 2 ^ 64

-- The grammar of starts, in a log of `ring` blocks: this block encodes this start.
pub record IsStartBlock (ring : ℕ) (s : LogStart) (block : List ℕ) : Type 0 where
  pub start : IsLogStart ring s
  pub spelled : block ≡ start_text s

-- Whether the second start is selected, by the first byte of block 1: 0xA7 selects it, any other byte the first start.
abbrev pub counts_second : ℕ → Bool
counts_second byte = byte == 0xA7

-- the block of the first or of the second start
abbrev pub start_block : Bool → ℕ
start_block second = if second then 3 else 2

-- `s` is the selected start in these bytes.
abbrev pub HasLogStart : ℕ → LogStart → List ℕ → Type 0
HasLogStart ring s bytes = IsStartBlock ring s (block_at bytes (start_block (counts_second (slice_index bytes 4096))))
