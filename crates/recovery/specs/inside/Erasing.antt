-- How erasing changes a device's bytes.
use Rattle.std.specs.Prelude.{◌≡◌, ◌≢◌, ◌⊎◌, ℕ, ◌*◌, ◌<◌, ◌≤◌, List, length, slice_index}
use Rattle.volume_codec.specs.Layout.{GeometryValue, gate_block, first_home, first_file_home, lengths_blocks, block_at}
use Rattle.volume_codec.specs.Lengths.{lengths_text}

-- The bytes from `from` up to `to` are 0. The other bytes, and the number of bytes, are the same.
pub record IsErased (from to : ℕ) (old new : List ℕ) : Type 0 where
  pub same_length : length new ≡ length old
  pub zero : (i : ℕ) → from ≤ i → i < to → slice_index new i ≡ 0
  pub others : (i : ℕ) → (i < from) ⊎ (to ≤ i) → slice_index new i ≡ slice_index old i

-- The gate bytes of the first `n` journals are 0. The other bytes, and the number of bytes, are the same.
pub record AreClosed (slots n : ℕ) (old new : List ℕ) : Type 0 where
  pub same_length : length new ≡ length old
  pub gates : (j : ℕ) → j < n → slice_index new (4096 * gate_block slots j) ≡ 0
  pub others : (i : ℕ) → ((j : ℕ) → j < n → i ≢ 4096 * gate_block slots j) → slice_index new i ≡ slice_index old i

-- The lengths block, if there is one, contains these lengths. The home blocks of files contain zeros. The number of
-- bytes is the same.
pub record AreEmptied (g : GeometryValue) (lengths : List ℕ) (old new : List ℕ) : Type 0 where
  pub same_length : length new ≡ length old
  pub lengths_block : 0 < lengths_blocks g.layout → block_at new (first_home g.layout g.slots) ≡ lengths_text lengths
  pub zero : (i : ℕ) → 4096 * first_file_home g.layout g.slots ≤ i → i < 4096 * g.blocks → slice_index new i ≡ 0
