-- Scripts for threads: a machine's shape, the capacity of the trace, steps to make first, and a program of commands for
-- each processor.
use Rattle.std.specs.Prelude.{ℕ, ◌&&◌, ◌==◌, nat_lt, List, [], ◌∷◌, length, Bool}
use Rattle.std.specs.Prelude.{if◌then◌else◌, codes, Option, Some, None}
use Rattle.std.specs.List.{list_all, list_any}
use Rattle.std.specs.Str.{bytes_eq}
use Rattle.serde_json.specs.Data.{Data}
use Rattle.serde_json.specs.Read.{read}
use Rattle.serde_json.specs.Find.{get, as_str, as_array}
use Rattle.scripts.specs.Arguments.{if_some, byte_of, long_of, list_of, all_of}
use Rattle.scripts.specs.Acts.{act_of}
use Rattle.scripts.specs.Forms.{has_form}
use Rattle.scripts.specs.Script.{size_of, shape_of, steps_of}
use Rattle.scripts.specs.declared.command.Command.{Command}
use Rattle.scripts.specs.declared.command.Command.TheVariants.{Do, Await}
use Rattle.scripts.specs.declared.form.Form.TheVariants as form
use Rattle.machine.specs.declared.act.Act.{Act}
use Rattle.machine.specs.declared.act.Shape.{Shape}
use Rattle.machine.specs.declared.act.Step.{Step}

-- an address, and the byte to wait for at that address
abbrev pub await_of : List Data → Option Command
await_of (va ∷ byte ∷ []) = if_some (long_of va) (λ va. if_some (byte_of byte) (λ byte. Some (Await va byte)))
await_of _ = None

-- the names of the acts that are commands
abbrev pub commanded : List (List ℕ)
commanded = codes "load" ∷ codes "store" ∷ codes "switch" ∷ codes "map" ∷ codes "unmap" ∷ codes "protect"
    ∷ codes "reclaim" ∷ codes "msync" ∷ []

-- the act with a command's name and arguments, if it can be a command
abbrev pub commanded_of : List ℕ → List Data → Option Act
commanded_of name arguments =
    if list_any (λ known. bytes_eq name known) commanded then act_of name arguments else None

-- the command with this name and these arguments
abbrev pub command_named : List ℕ → List Data → Option Command
command_named name arguments = if bytes_eq name (codes "await") then await_of arguments
    else if_some (commanded_of name arguments) (λ act. Some (Do act))

-- a command: a name, and its arguments
abbrev pub items_command : List Data → Option Command
items_command (name ∷ arguments) = if_some (as_str name) (λ name. command_named name arguments)
items_command [] = None

-- a command that is written as a list
abbrev pub command_of : Data → Option Command
command_of value = if_some (as_array value) (λ items. items_command (list_of items))

-- a program: a list of commands
abbrev pub program_of : Data → Option (List Command)
program_of value = if_some (as_array value) (λ items. all_of command_of (list_of items))

-- all programs, in order
abbrev pub programs_of : Data → Option (List (List Command))
programs_of value =
    if_some (if_some (get (codes "programs") value) as_array) (λ items. all_of program_of (list_of items))

-- whether there is one program for each processor, and each step has the number of a processor
abbrev pub are_for : ℕ → List Step → List (List Command) → Bool
are_for cpus steps programs = (length programs == cpus) && list_all (λ step. nat_lt step.p cpus) steps

-- the shape, the capacity of the trace, the steps and the programs of a script for threads
abbrev pub thread_script_of : Data → Option (Shape × ℕ × List Step × List (List Command))
thread_script_of value = if has_form form.ThreadScript value
    then if_some (shape_of value) (λ shape. if_some (size_of (codes "trace") value) (λ trace.
    if_some (steps_of value) (λ steps. if_some (programs_of value) (λ programs.
    if are_for shape.cpus steps programs then Some (shape, trace, steps, programs) else None)))) else None

-- the same for a script with this text
abbrev pub thread_script_in : List ℕ → Option (Shape × ℕ × List Step × List (List Command))
thread_script_in text = if_some (read text) thread_script_of
