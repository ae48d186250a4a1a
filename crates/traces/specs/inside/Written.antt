-- The values whose texts are the lines of a trace.
use Rattle.std.specs.Prelude.{ℕ, List, [], ◌∷◌, map, codes}
use Rattle.serde_json.specs.Data.{Data, number, string, array, unsigned}
use Rattle.serde_json.specs.View.{items_of}

-- a whole number
abbrev pub num : ℕ → Data
num n = number (unsigned n)

-- a list
abbrev pub list : List Data → Data
list items = array (items_of items)

-- a list of bytes
abbrev pub bytes_data : List ℕ → Data
bytes_data bytes = list (map num bytes)

-- the step of a store
abbrev pub store_data : ℕ → ℕ → List ℕ → Data
store_data p va bytes = list (num p ∷ string (codes "store") ∷ num va ∷ bytes_data bytes ∷ [])

-- the step of a map, with the words of its rights
abbrev pub map_data : ℕ → ℕ → ℕ → ℕ → ℕ → ℕ → List ℕ → List ℕ → Data
map_data p space va len file offset prot access =
    list (num p ∷ string (codes "map") ∷ num space ∷ num va ∷ num len ∷ num file ∷ num offset ∷ string prot
    ∷ string access ∷ [])
