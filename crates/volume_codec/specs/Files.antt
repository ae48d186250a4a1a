-- The files of a volume: as users see them, as the table contains them, and as callers request them.
use Rattle.std.specs.Prelude.{ℕ, List, map}
use Rattle.std.specs.Borrow.{Bor}
use Rattle.volume_codec.specs.declared.file_spec.FileSpec.{FileSpec}

-- a file: its name, its bytes up to its length, and the number of bytes to which it may grow
pub record File : Type 0 where
  pub name : List ℕ
  pub bytes : List ℕ
  pub capacity : ℕ

-- a file in the table: its name, and the number of bytes to which it may grow
pub record TableFile : Type 0 where
  pub name : List ℕ
  pub capacity : ℕ

-- a requested file
pub record AskedFile : Type 0 where
  pub name : List ℕ
  pub length : ℕ
  pub capacity : ℕ

-- the files that a caller requests
abbrev pub asked_by : List FileSpec → List AskedFile
asked_by files = map (λ f. record { name = f.name.now; length = f.length; capacity = f.capacity }) files

-- the lengths of the requested files
abbrev pub lengths_asked : List AskedFile → List ℕ
lengths_asked files = map (λ f. f.length) files

-- The files that a caller requests by names and lengths. They can't grow.
abbrev pub asked_by_pairs : List (Bor (List ℕ) × ℕ) → List AskedFile
asked_by_pairs files = map (λ f. record { name = f.0.now; length = f.1; capacity = f.1 }) files
