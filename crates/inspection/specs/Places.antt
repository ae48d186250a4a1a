-- The file and the page of a home block.
use Rattle.std.specs.Prelude.{ℕ, zero, suc, ◌-◌, if◌then◌else◌, nat_le, length, Option, Some, None}
use Rattle.volume_codec.specs.Super.{SuperValue, first_home_of}
use Rattle.inspection.specs.declared.place.HomePage.{HomePage}

-- The home block `h` as a page of a file: the last one before file `i` that begins at this block or before it. None if
-- there is no such file.
abbrev pub place_before : SuperValue → ℕ → ℕ → Option HomePage
place_before v h zero = None
place_before v h (suc i) = if nat_le (first_home_of v i) h
    then Some (record { file = i; page = h - first_home_of v i })
    else place_before v h i

-- The home block `h` as a page of the file that it belongs to, or None.
abbrev pub place_in : SuperValue → ℕ → Option HomePage
place_in v h = place_before v h (length v.files)
