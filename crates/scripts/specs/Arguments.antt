-- The arguments of an act in a script.
use Rattle.std.specs.Prelude.{ℕ, ◌-◌, ◌^◌, nat_le, if◌then◌else◌, Bool, true, false, List, [], ◌∷◌}
use Rattle.std.specs.Prelude.{length, find, codes, Option, Some, None, option_map, option_and_then}
use Rattle.std.specs.Str.{bytes_eq}
use Rattle.serde_json.specs.Data.{Data, Items, no_items, item}
use Rattle.serde_json.specs.Find.{as_u64, as_number, as_str, as_array}
use Rattle.mappings.specs.declared.place.Rights.{Rights}
use Rattle.machine.specs.declared.msync_flags.MsyncFlags.{MsyncFlags}
use Rattle.mappings.specs.declared.place.Rights.TheVariants.{Read, ReadWrite}

-- the result of `f` for the value, if there is one
abbrev pub if_some : {A B : Type 0} → Option A → (A → Option B) → Option B
if_some o f = option_and_then f o

-- `n` if it is at most `most`
abbrev pub up_to : ℕ → ℕ → Option ℕ
up_to most n = if nat_le n most then Some n else None

-- a whole number from 0 to `most`, written without a point and an exponent
abbrev pub whole_number : ℕ → Data → Option ℕ
whole_number most value = if_some (if_some (as_number value) as_u64) (up_to most)

-- numbers of 8, 16, 32 and 64 bits
abbrev pub byte_of : Data → Option ℕ
byte_of = whole_number 255

abbrev pub short_of : Data → Option ℕ
short_of = whole_number 65535

abbrev pub page_number_of : Data → Option ℕ
page_number_of = whole_number 4294967295

abbrev pub long_of : Data → Option ℕ
long_of = whole_number (2 ^ 64 - 1)

-- the flags of msync, with all their bits
abbrev pub flags_of : Data → Option MsyncFlags
flags_of value = option_map (λ bits. record { 0 = bits }) (byte_of value)

-- the value beside this word in the table
abbrev pub beside : {X : Type 0} → List (List ℕ × X) → List ℕ → Option X
beside table word = option_map (λ row. row.1) (find (λ row. bytes_eq word row.0) table)

abbrev pub one_of : {X : Type 0} → List (List ℕ × X) → Data → Option X
one_of table value = if_some (as_str value) (beside table)

-- the rights of a mapping; the right to write includes the right to read
abbrev pub prot_of : Data → Option Rights
prot_of = one_of ((codes "r", Read) ∷ (codes "w", ReadWrite) ∷ (codes "rw", ReadWrite) ∷ [])

-- the access with which a file was opened
abbrev pub access_of : Data → Option Rights
access_of = one_of ((codes "r", Read) ∷ (codes "rw", ReadWrite) ∷ [])

-- whether cached entries are kept
abbrev pub keep_of : Data → Option Bool
keep_of = one_of ((codes "keep", true) ∷ (codes "drop", false) ∷ [])

-- whether a fault is for a write
abbrev pub write_of : Data → Option Bool
write_of = one_of ((codes "read", false) ∷ (codes "write", true) ∷ [])

-- the items of a list
abbrev pub list_of : Items → List Data
list_of no_items = []
list_of (item d ds) = d ∷ list_of ds

-- the results of `f` for all items, if there is a result for each
abbrev pub all_of : {A B : Type 0} → (A → Option B) → List A → Option (List B)
all_of f [] = Some []
all_of f (x ∷ xs) = if_some (f x) (λ y. if_some (all_of f xs) (λ ys. Some (y ∷ ys)))

-- at most 8 bytes
abbrev pub few_of : List Data → Option (List ℕ)
few_of items = if nat_le (length items) 8 then all_of byte_of items else None

-- a list of at most 8 bytes
abbrev pub few_bytes_of : Data → Option (List ℕ)
few_bytes_of value = if_some (as_array value) (λ items. few_of (list_of items))
