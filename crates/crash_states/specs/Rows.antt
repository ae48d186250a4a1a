-- The marks at which the crash states of a row have their files.
use Rattle.std.specs.Prelude.{ℕ, List, [], ◌∷◌, max}
use Rattle.crash_states.specs.declared.row.Found.{Found}

-- the newest mark among these states, or 0 if there are none
abbrev pub newest_of : List Found → ℕ
newest_of [] = 0
newest_of (found ∷ others) = max found.mark (newest_of others)
