-- Traces. The first line contains the shape of the machine and the room of the trace. Each further line contains an
-- entry.
use Rattle.std.specs.Prelude.{ℕ, List, [], ◌∷◌, if◌then◌else◌, codes, Option, Some, None}
use Rattle.std.specs.Str.Lines.{lines}
use Rattle.serde_json.specs.Data.{Data, object, number, unsigned, member, no_members}
use Rattle.serde_json.specs.Read.{read}
use Rattle.serde_json.specs.Find.{as_str, as_array}
use Rattle.scripts.specs.Arguments.{if_some, list_of, all_of}
use Rattle.scripts.specs.Forms.{has_form}
use Rattle.scripts.specs.Script.{size_of, shape_of, step_of}
use Rattle.scripts.specs.declared.form.Form.TheVariants.{Trace}
use Rattle.machine.specs.declared.act.Shape.{Shape}
use Rattle.machine.specs.declared.act.Step.{Step}

-- the shape and the room, in an object with the members copies, cpus, frames, tlb and trace, and no others
abbrev pub shape_line_of : Data → Option (Shape × ℕ)
shape_line_of value = if has_form Trace value
    then if_some (shape_of value) (λ shape. if_some (size_of (codes "trace") value) (λ room. Some (shape, room)))
    else None

abbrev pub shape_line : List ℕ → Option (Shape × ℕ)
shape_line text = if_some (read text) shape_line_of

-- the object that is written for a shape and a room
abbrev pub shape_data : Shape → ℕ → Data
shape_data shape room =
    object (member (codes "copies") (number (unsigned shape.copies))
    (member (codes "cpus") (number (unsigned shape.cpus))
    (member (codes "frames") (number (unsigned shape.frames))
    (member (codes "tlb") (number (unsigned shape.tlb))
    (member (codes "trace") (number (unsigned room)) no_members)))))

-- an entry: a list of a step, as in a script, and the text of its reply
abbrev pub items_entry : List Data → Option (Step × List ℕ)
items_entry (step ∷ reply ∷ []) = if_some (step_of step) (λ step. if_some (as_str reply) (λ text. Some (step, text)))
items_entry _ = None

abbrev pub entry_of : Data → Option (Step × List ℕ)
entry_of value = if_some (as_array value) (λ items. items_entry (list_of items))

abbrev pub entry_line : List ℕ → Option (Step × List ℕ)
entry_line text = if_some (read text) entry_of

-- the shape, the room and the entries in these lines
abbrev pub trace_of_lines : List (List ℕ) → Option (Shape × ℕ × List (Step × List ℕ))
trace_of_lines [] = None
trace_of_lines (first ∷ rest) = if_some (shape_line first)
    (λ head. if_some (all_of entry_line rest) (λ entries. Some (head.0, head.1, entries)))

-- the shape, the room and the entries in a trace's text
abbrev pub trace_in : List ℕ → Option (Shape × ℕ × List (Step × List ℕ))
trace_in text = trace_of_lines (lines text)
