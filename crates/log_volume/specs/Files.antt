-- The files of a volume with a log. The contents of a volume are a function from the number of a home block to its
-- bytes. The first home block contains the lengths.
use Rattle.std.specs.Prelude.{◌≡◌, ℕ, List, length}
use Rattle.volume_codec.specs.Files.{File}
use Rattle.volume_codec.specs.Layout.{block_at}
use Rattle.volume_codec.specs.Text.{numbers_in}
use Rattle.volume_codec.specs.Lengths.{IsLengths}
use Rattle.volume_codec.specs.Recovery.{files_from}
use Rattle.log_codec.specs.Log.{first_log_home, first_log_file_home}
use Rattle.log_codec.specs.Chain.{LogRecovers}
use Rattle.log_volume.specs.Super.{LogSuperValue, IsLogSuper, table_of, log_of}

-- The lengths of the files in contents.
abbrev pub log_lengths_in : LogSuperValue → (ℕ → List ℕ) → List ℕ
log_lengths_in v contents = numbers_in 8 (length v.files) (contents (first_log_home v.ring))

-- The files in contents. Each file has the bytes of its home blocks, up to its length.
abbrev pub log_files_in : LogSuperValue → (ℕ → List ℕ) → List File
log_files_in v contents =
    files_from contents (first_log_file_home v.ring) v.files (log_lengths_in v contents)

-- A device with these bytes recovers to these files, and their lengths obey the grammar.
pub record RecoversToLog (bytes : List ℕ) (files : List File) : Type 0 where
  pub table : LogSuperValue
  pub contents : ℕ → List ℕ
  pub super_block : IsLogSuper table (block_at bytes 0)
  pub recovers : LogRecovers (log_of table) contents bytes
  pub lengths : IsLengths (table_of table) (log_lengths_in table contents) (contents (first_log_home table.ring))
  pub files_are : files ≡ log_files_in table contents
