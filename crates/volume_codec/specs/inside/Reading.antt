-- The names and files that are read from the entries of a table.
use Rattle.std.specs.Prelude.{ℕ, zero, suc, not, ◌==◌, List, [], ◌∷◌, take, drop, take_while}
use Rattle.page_entry.specs.declared.refusal.Refusal.{Refusal}
use Rattle.page_entry.specs.declared.refusal.Refusal.TheVariants.{Damaged, BadShape}
use Rattle.volume_codec.specs.Files.{TableFile}
use Rattle.volume_codec.specs.Text.{number_in}

-- the name in the first 32 bytes of an entry: the bytes before the first zero
abbrev pub name_in : List ℕ → List ℕ
name_in entry = take_while (λ b. not (b == 0)) (take 32 entry)

-- the file in an entry
abbrev pub file_in : List ℕ → TableFile
file_in entry = record { name = name_in entry; capacity = number_in 8 (drop 32 entry) }

-- the files in the first n entries
abbrev pub table_files_in : ℕ → List ℕ → List TableFile
table_files_in zero entries = []
table_files_in (suc n) entries = file_in entries ∷ table_files_in n (drop 48 entries)

-- If the table that was read from a block breaks the rules, the block is damaged.
abbrev pub damage_of : Refusal → Refusal
damage_of BadShape = Damaged
damage_of e = e
