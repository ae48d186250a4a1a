-- The files of a volume as lines of JSON. Each file has a line with its name and length, and a line for each row of 16
-- bytes that isn't all zeros.
use Rattle.std.specs.Prelude.{ℕ, codes, List, [], ◌∷◌, ◌++◌}
use Rattle.hex.specs.Hex.{encode_lower}
use Rattle.serde_json.specs.Data.{Data, object, string, member, no_members}
use Rattle.serde_json.specs.Written.{compact_text}
use Rattle.volume_codec.specs.Files.{File}
use Rattle.volume_reading.specs.Rows.{files_listing}
use Rattle.inspection.specs.Json.{num}

-- A value without spaces, then a line feed.
abbrev pub json_line : Data → List ℕ
json_line value = compact_text value ++ 10 ∷ []

-- a file: its length and its name
abbrev pub head_data : List ℕ → ℕ → Data
head_data name n = object (member (codes "length") (num n) (member (codes "name") (string name) no_members))

-- The line with a file's length and name.
abbrev pub head_json : List ℕ → ℕ → List ℕ
head_json name n = json_line (head_data name n)

-- A row: its bytes as hexadecimal digits, and its offset in the file.
abbrev pub row_data : ℕ → List ℕ → Data
row_data at bytes =
    object (member (codes "bytes") (string (encode_lower bytes)) (member (codes "offset") (num at) no_members))

-- The line of a row.
abbrev pub row_json : ℕ → List ℕ → List ℕ
row_json at bytes = json_line (row_data at bytes)

-- The files in order. For each file: the line with its length and name, then the lines of its rows that aren't all
-- zeros.
abbrev pub files_json : List File → List ℕ
files_json files = files_listing head_json row_json files
