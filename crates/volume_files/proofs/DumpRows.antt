-- The text of a row, byte by byte.
use Rattle.std.proofs.Common.{◌≡◌, ℕ, ◌+◌, ◌-◌, ◌^◌, ◌<◌, List, [], ◌∷◌, ◌++◌}
use Rattle.std.proofs.Common.{length, take, get_or, false, ap, sym, ◌∙◌}
use Rattle.std.proofs.lemmas.List.{take_more, flat_map_more}
use Rattle.std.proofs.lemmas.Fmt.{hex_byte}
use Rattle.std.specs.Fmt.{digits, padded_integral, format_spec}
use Rattle.std.specs.List.{flat_map}
use Rattle.volume_files.specs.Dump.{byte_text}

-- what a byte is written as
abbrev pub written_byte : ℕ → List ℕ
written_byte byte = 32 ∷ padded_integral (format_spec 32 0 4 2 (2 ^ 64 - 1)) false [] (digits 16 false byte)

written_byte-text : (byte : ℕ) → byte < 256 → written_byte byte ≡ byte_text byte
written_byte-text byte small = ap (λ two. 32 ∷ two) (hex_byte false byte small)

-- one more byte
pub row_more : (start bytes : List ℕ) (i : ℕ) → i < length bytes → get_or bytes i 0 < 256
    → (start ++ flat_map byte_text (take i bytes)) ++ written_byte (get_or bytes i 0)
    ≡ start ++ flat_map byte_text (take (i + 1) bytes)
row_more start bytes i below small =
    ap (λ text. (start ++ flat_map byte_text (take i bytes)) ++ text) (written_byte-text (get_or bytes i 0) small)
    ∙ flat_map_more byte_text start (take i bytes) (get_or bytes i 0)
    ∙ ap (λ front. start ++ flat_map byte_text front) (sym (take_more bytes i 0 below))
