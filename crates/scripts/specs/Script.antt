-- Scripts: one object with the members cpus, tlb, frames, copies and steps, and no others.
use Rattle.std.specs.Prelude.{ℕ, List, ◌∷◌, if◌then◌else◌, codes, Option, Some, None}
use Rattle.serde_json.specs.Data.{Data}
use Rattle.serde_json.specs.Read.{read}
use Rattle.serde_json.specs.Find.{get, as_str, as_array}
use Rattle.scripts.specs.Arguments.{if_some, byte_of, long_of, list_of, all_of}
use Rattle.scripts.specs.Acts.{act_of}
use Rattle.scripts.specs.Forms.{has_form}
use Rattle.scripts.specs.declared.form.Form.TheVariants as form
use Rattle.machine.specs.declared.act.Shape.{Shape}
use Rattle.machine.specs.declared.act.Step.{Step}

-- a step: a processor, the name of an act, and its arguments
abbrev pub items_step : List Data → Option Step
items_step (p ∷ name ∷ arguments) =
    if_some (byte_of p) (λ p. if_some (as_str name)
    (λ name. if_some (act_of name arguments) (λ act. Some (record { p = p; act = act }))))
items_step _ = None

-- a step that is written as a list
abbrev pub step_of : Data → Option Step
step_of value = if_some (as_array value) (λ items. items_step (list_of items))

-- the number in the member with this name
abbrev pub size_of : List ℕ → Data → Option ℕ
size_of name value = if_some (get name value) long_of

-- the shape of the machine
abbrev pub shape_of : Data → Option Shape
shape_of value = if_some (size_of (codes "cpus") value) (λ cpus. if_some (size_of (codes "tlb") value) (λ tlb.
    if_some (size_of (codes "frames") value) (λ frames. if_some (size_of (codes "copies") value) (λ copies.
    Some (record { cpus = cpus; tlb = tlb; frames = frames; copies = copies })))))

-- all steps, in order
abbrev pub steps_of : Data → Option (List Step)
steps_of value = if_some (if_some (get (codes "steps") value) as_array) (λ items. all_of step_of (list_of items))

-- the shape and the steps of a script
abbrev pub script_of : Data → Option (Shape × List Step)
script_of value = if has_form form.Script value
    then if_some (shape_of value) (λ shape. if_some (steps_of value) (λ steps. Some (shape, steps))) else None

-- the shape and the steps of a script with this text
abbrev pub script_in : List ℕ → Option (Shape × List Step)
script_in text = if_some (read text) script_of
