-- The files of a volume as text. Each file has a head, and rows of 16 bytes without those that are all zeros. The
-- functions `head` and `row` write a head and a row.
use Rattle.std.specs.Prelude.{ℕ, zero, suc, ◌+◌, ◌*◌, ◌/◌, ◌==◌, if◌then◌else◌}
use Rattle.std.specs.Prelude.{List, [], ◌++◌, length, take, drop}
use Rattle.std.specs.List.{flat_map, list_all}
use Rattle.volume_codec.specs.Files.{File}

-- The text of a row, which is empty if all its bytes are zero.
abbrev pub shown : (ℕ → List ℕ → List ℕ) → ℕ → List ℕ → List ℕ
shown row at bytes = if list_all (λ byte. byte == 0) bytes then [] else row at bytes

-- row n of these bytes
abbrev pub row_of : List ℕ → ℕ → List ℕ
row_of bytes n = take 16 (drop (16 * n) bytes)

-- The text of the rows before row `n`.
abbrev pub rows_text : (ℕ → List ℕ → List ℕ) → List ℕ → ℕ → List ℕ
rows_text row bytes zero = []
rows_text row bytes (suc n) = rows_text row bytes n ++ shown row (16 * n) (row_of bytes n)

-- The number of rows of `n` bytes. The last row may be shorter.
abbrev pub row_count : ℕ → ℕ
row_count n = (n + 15) / 16

-- The text of a file: the head with its name and length, then its rows.
abbrev pub file_listing : (List ℕ → ℕ → List ℕ) → (ℕ → List ℕ → List ℕ) → File → List ℕ
file_listing head row f = head f.name (length f.bytes) ++ rows_text row f.bytes (row_count (length f.bytes))

-- The text of the files, in order.
abbrev pub files_listing : (List ℕ → ℕ → List ℕ) → (ℕ → List ℕ → List ℕ) → List File → List ℕ
files_listing head row files = flat_map (file_listing head row) files
