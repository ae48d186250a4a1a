-- The newest record of each home block in the commits of a log.
use Rattle.std.specs.Prelude.{◌≡◌, ℕ, ◌+◌, ◌==◌, nat_lt, if◌then◌else◌, Bool, true, false, List, [], ◌∷◌, map}
use Rattle.std.specs.Prelude.{Option, Some, None}
use Rattle.log_codec.specs.Log.{LogValue, ring_block}
use Rattle.log_codec.specs.Commit.{LogDescriptor}
use Rattle.log_codec.specs.Chain.{records_position, position_after}
use Rattle.log_home.specs.declared.index.Newest.{Newest}

-- Home blocks in rising order, each with its newest record, or with space for one.
abbrev pub Entries : Type 0
Entries = List (ℕ × Option Newest)

-- The newest record of a home block, if there is one.
abbrev pub find_in : Entries → ℕ → Option Newest
find_in [] b = None
find_in (entry ∷ entries) b = if b == entry.0 then entry.1 else find_in entries b

abbrev pub indexed_homes : Entries → List ℕ
indexed_homes entries = map (λ entry. entry.0) entries

-- The record of home block `b` in the commit with this number. The records of the commit begin at position `p`. If the
-- commit has no record of `b`, it is `other`.
abbrev pub recorded_or : ℕ → Option Newest → ℕ → ℕ → List ℕ → ℕ → Option Newest
recorded_or ring other p number [] b = other
recorded_or ring other p number (home ∷ homes) b =
    if b == home then Some (record { number = number; block = ring_block ring p })
    else recorded_or ring other (p + 1) number homes b

-- The record of home block `b` in the newest commit of a chain that has one, or else `other`. The chain begins at
-- position `p`.
abbrev pub newest_of_chain : ℕ → Option Newest → ℕ → List LogDescriptor → ℕ → Option Newest
newest_of_chain ring other p [] b = other
newest_of_chain ring other p (d ∷ ds) b =
    newest_of_chain ring (recorded_or ring other (records_position p d) d.number d.homes b) (position_after p d) ds b

-- The entries are the newest records of a chain.
abbrev pub IsIndexOf : LogValue → ℕ → List LogDescriptor → Entries → Type 0
IsIndexOf g p chain entries = (b : ℕ) → find_in entries b ≡ newest_of_chain g.ring None p chain b

-- Whether there is a record, and it belongs to a commit with this number or a later one.
abbrev pub is_from : ℕ → Option Newest → Bool
is_from below None = false
is_from below (Some newest) = if nat_lt newest.number below then false else true

-- The record, unless its commit has a lower number.
abbrev pub from_number : ℕ → Option Newest → Option Newest
from_number below None = None
from_number below (Some newest) = if nat_lt newest.number below then None else Some newest
