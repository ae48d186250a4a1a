-- The text of a dump: each file's name and length, and its rows of 16 bytes. Rows of zeros only are left out.
use Rattle.std.specs.Prelude.{ℕ, ◌-◌, ◌^◌, ◌/◌, ◌%◌, List, [], ◌∷◌, ◌++◌, false}
use Rattle.std.specs.List.{flat_map}
use Rattle.std.specs.Fmt.{decimal, digits, digit_glyph, padded_integral, format_spec}
use Rattle.volume_codec.specs.Files.{File}
use Rattle.volume_reading.specs.Rows.{files_listing}

-- a byte in two hexadecimal digits, after a space
abbrev pub byte_text : ℕ → List ℕ
byte_text byte = 32 ∷ digit_glyph false (byte / 16) ∷ digit_glyph false (byte % 16) ∷ []

-- an offset in at least 12 hexadecimal digits
abbrev pub offset_text : ℕ → List ℕ
offset_text at = padded_integral (format_spec 32 0 4 12 (2 ^ 64 - 1)) false [] (digits 16 false at)

-- an offset, and the bytes of a row
abbrev pub row_text : ℕ → List ℕ → List ℕ
row_text at bytes = offset_text at ++ flat_map byte_text bytes

-- the line of a row
abbrev pub row_line : ℕ → List ℕ → List ℕ
row_line at bytes = row_text at bytes ++ 10 ∷ []

-- the head of a file: a line with its name, a space and its length in decimal digits
abbrev pub head_line : List ℕ → ℕ → List ℕ
head_line name n = name ++ 32 ∷ decimal n ++ 10 ∷ []

-- the files in order: the head of each, and its rows that aren't all zeros
abbrev pub dump_text : List File → List ℕ
dump_text files = files_listing head_line row_line files
