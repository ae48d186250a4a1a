-- The files that a session lists, and the order in which it tries to take their pages out of memory.
use Rattle.std.specs.Prelude.{ℕ, ◌≡◌, ◌+◌, ◌-◌, ◌^◌, min, nat_lt, List, length, map, sum_by}
use Rattle.std.specs.Prelude.{string_bytes, Option, Some, None, slice_get, if◌then◌else◌}
use Rattle.page_entry.specs.declared.numbers.FilePage.{FilePage}
use Rattle.volume_codec.specs.Files.{File}
use Rattle.volume_codec.specs.Super.{SuperValue, names_in, capacities_in, pages_of}
use Rattle.session.specs.declared.files.FileLine.{FileLine}

-- The lines list the files of a volume with this table and these lengths, in the table's order. A line contains a
-- file's name, its length in bytes, and the number of pages that it may have.
pub record AreFiles {A : Type 0} (table : SuperValue) (lengths : List ℕ) (lines : List (FileLine A)) : Type 0 where
  pub names_are : map (λ line. string_bytes line.name) lines ≡ names_in table
  pub lengths_are : map (λ line. line.length) lines ≡ lengths
  pub pages_are : map (λ line. line.pages) lines ≡ map pages_of (capacities_in table)

-- The lines have the names and the lengths of these files, in order.
pub record AreListed {A : Type 0} (files : List File) (lines : List (FileLine A)) : Type 0 where
  pub names_are : map (λ line. string_bytes line.name) lines ≡ map (λ f. f.name) files
  pub lengths_are : map (λ line. line.length) lines ≡ map (λ f. length f.bytes) files

-- the number of pages that all files together may have
abbrev pub pages_in : {A : Type 0} → List (FileLine A) → ℕ
pages_in lines = sum_by (λ line. line.pages) lines

-- the number of pages in a round of tries: all pages, but at most 2 ^ 64 - 1
abbrev pub round_of : {A : Type 0} → List (FileLine A) → ℕ
round_of lines = min (pages_in lines) (2 ^ 64 - 1)

-- the number of pages that a file may have, or 0 if there is no such file
abbrev pub pages_of_line : {A : Type 0} → Option (FileLine A) → ℕ
pages_of_line None = 0
pages_of_line (Some line) = line.pages

-- The page whose turn is next: the next page of the same file. After the last page of a file it is the first page of
-- the next file. After the last page of all it is the first page of all. A file number has 16 bits.
abbrev pub page_after : {A : Type 0} → List (FileLine A) → FilePage → FilePage
page_after lines now =
    if nat_lt (now.page + 1) (pages_of_line (slice_get lines now.file)) then record now { page = now.page + 1 }
    else (if nat_lt (now.file + 1) (length lines) then record { file = min (now.file + 1) 65535; page = 0 }
    else record { file = 0; page = 0 })
