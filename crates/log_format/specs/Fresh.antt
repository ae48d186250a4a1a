-- A fresh volume with a log, block by block.
use Rattle.std.specs.Prelude.{◌≡◌, ◌≢◌, ℕ, ◌*◌, ◌<◌, ◌≤◌, List, length}
use Rattle.volume_codec.specs.Layout.{block_at}
use Rattle.volume_codec.specs.Lengths.{lengths_text}
use Rattle.volume_codec.specs.Text.{zeros}
use Rattle.log_codec.specs.declared.start.LogStart.{LogStart}
use Rattle.log_codec.specs.Log.{first_log_home, first_log_file_home}
use Rattle.log_codec.specs.Start.{start_text}
use Rattle.log_volume.specs.Super.{LogSuperValue, IsLogSuper, log_of}

-- The start of a fresh log: its next commit is number 1, at position 0, in epoch 1.
abbrev pub first_log_start : LogStart
first_log_start = record { position = 0; number = 1; epoch = 1 }

-- A log without commits, whatever block 0 and the home blocks contain. Block 2 contains the first start. The other
-- blocks from 1 up to the first home block are zero.
pub record IsFreshLog (table : LogSuperValue) (bytes : List ℕ) : Type 0 where
  pub long : 4096 * (log_of table).blocks ≤ length bytes
  pub start : block_at bytes 2 ≡ start_text first_log_start
  pub blank : (b : ℕ) → 0 < b → b ≢ 2 → b < first_log_home table.ring → block_at bytes b ≡ zeros 4096

-- A fresh volume without its block 0: a fresh log, these lengths in the lengths block, and zeros in the home blocks of
-- files.
pub record IsFreshBehind (table : LogSuperValue) (lengths : List ℕ) (bytes : List ℕ) : Type 0 where
  pub log : IsFreshLog table bytes
  pub lengths_block : block_at bytes (first_log_home table.ring) ≡ lengths_text lengths
  pub homes : (b : ℕ) → first_log_file_home table.ring ≤ b → b < (log_of table).blocks → block_at bytes b ≡ zeros 4096

-- A fresh volume: its table in block 0, and the rest as in `IsFreshBehind`.
pub record IsFreshVolume (table : LogSuperValue) (lengths : List ℕ) (bytes : List ℕ) : Type 0 where
  pub super_block : IsLogSuper table (block_at bytes 0)
  pub rest : IsFreshBehind table lengths bytes
