-- Which commits of a log have a given home block.
use Rattle.std.specs.Prelude.{◌≡◌, ℕ, zero, suc, ◌≤◌, List, [], ◌∷◌, Option, Some}
use Rattle.std.specs.List.{Contains}
use Rattle.log_codec.specs.Commit.{LogDescriptor}

-- The commit at this place in the chain has this home block.
abbrev pub HasHomeAt : List LogDescriptor → ℕ → ℕ → Type 0
HasHomeAt [] place b = ⊥
HasHomeAt (d ∷ ds) zero b = Contains d.homes b
HasHomeAt (d ∷ ds) (suc place) b = HasHomeAt ds place b

-- If `youngest` has a place for a home block, the commit at that place has the block.
abbrev pub ArePlaces : List LogDescriptor → (ℕ → Option ℕ) → Type 0
ArePlaces chain youngest = (b place : ℕ) → youngest b ≡ Some place → HasHomeAt chain place b

-- By `youngest`, a commit at place `from` or later has this home block.
abbrev pub IsYounger : (ℕ → Option ℕ) → ℕ → ℕ → Type 0
IsYounger youngest from b = (place : ℕ) × (from ≤ place) × (youngest b ≡ Some place)
