-- The text that is printed for the files of crash states.
use Rattle.std.specs.Prelude.{ℕ, zero, suc, ◌+◌, ◌==◌, if◌then◌else◌, codes, List, [], ◌∷◌, ◌++◌}
use Rattle.std.specs.List.{count_by}
use Rattle.std.specs.Fmt.{decimal}
use Rattle.crash_states.specs.declared.row.Found.{Found}
use Rattle.crash_states.specs.declared.row.Row.{Row}
use Rattle.crash_states.specs.Rows.{newest_of}

-- a mark, and the number of states with the files at it; no text if there are none
abbrev pub mark_text : ℕ → ℕ → List ℕ
mark_text mark states =
    if states == 0 then [] else codes "  mark " ++ (decimal mark ++ (codes " x" ++ decimal states))

-- the text for the marks before this one, in order
abbrev pub marks_text : List Found → ℕ → List ℕ
marks_text found zero = []
marks_text found (suc mark) = marks_text found mark ++ mark_text mark (count_by (λ f. f.mark == mark) found)

-- the text for all marks of a row, and the line's end
abbrev pub found_text : {A : Type 0} → Row A → List ℕ
found_text row = marks_text row.found.items (newest_of row.found.items + 1) ++ 10 ∷ []
