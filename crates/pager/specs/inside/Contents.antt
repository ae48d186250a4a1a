-- Home blocks that contain the files after a history of calls.
use Rattle.std.specs.Prelude.{ℕ, ◌≡◌, ◌<◌, ◌≤◌, List, length, unwrap_or}
use Rattle.volume_codec.specs.Files.{File}
use Rattle.volume_codec.specs.Layout.{first_file_home}
use Rattle.volume_codec.specs.Lengths.{HasLengths, lengths_in}
use Rattle.volume_codec.specs.Super.{SuperValue, block_count}
use Rattle.history.specs.History.{Event, memory_of, after, lengths_of, lengths_after}
use Rattle.history.specs.inside.Contents.{HasParts}
use Rattle.kept_blocks.specs.Blocks.{Blocks, bytes_in}

-- the contents of the home blocks after these blocks are written
abbrev pub written_over : Blocks → (ℕ → List ℕ) → ℕ → List ℕ
written_over blocks contents b = unwrap_or (bytes_in blocks b) (contents b)

-- The home blocks contain the files as they are after the history, with their lengths. `files` are those before it.
pub record HaveFiles (files : List File) (table : SuperValue) (contents : ℕ → List ℕ) (history : List Event)
    : Type 0 where
  pub whole : (file page : ℕ) → length (after (memory_of files) history file page) ≡ 4096
  pub blocks : (b : ℕ) → first_file_home table.layout table.slots ≤ b → b < block_count table
      → length (contents b) ≡ 4096
  pub fits : HasLengths table contents
  pub same_lengths : lengths_in table contents ≡ lengths_after (lengths_of files) history
  pub parts : HasParts table (lengths_after (lengths_of files) history) contents (after (memory_of files) history)
