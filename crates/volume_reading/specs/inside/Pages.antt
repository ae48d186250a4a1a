-- How a page of a file is written, row by row.
use Rattle.std.specs.Prelude.{ℕ, zero, suc, ◌+◌, ◌*◌, List, [], ◌++◌}
use Rattle.volume_reading.specs.Rows.{shown, row_of}

-- The text of the first `n` rows of these bytes, which begin at the offset `at` of a file.
abbrev pub rows_at : (ℕ → List ℕ → List ℕ) → ℕ → List ℕ → ℕ → List ℕ
rows_at row at bytes zero = []
rows_at row at bytes (suc n) = rows_at row at bytes n ++ shown row (at + 16 * n) (row_of bytes n)
