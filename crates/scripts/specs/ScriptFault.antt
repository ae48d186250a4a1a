-- Why a script is refused.
use Rattle.scripts.specs.declared.script_fault.ScriptFault.{ScriptFault}
use Rattle.scripts.specs.declared.script_fault.ScriptFault.TheVariants.{NotUtf8, NotJson, NotAnObject, Missing}
use Rattle.scripts.specs.declared.script_fault.ScriptFault.TheVariants.{Unknown, Number, NotAList, Step, Programs}
use Rattle.scripts.specs.declared.script_fault.ScriptFault.TheVariants.{Program, Command, Processor, Memory}

-- The fault is that memory was refused.
abbrev pub IsMemory : ScriptFault → Type 0
IsMemory (Memory cause) = Unit {0}
IsMemory NotUtf8 = ⊥
IsMemory (NotJson cause) = ⊥
IsMemory NotAnObject = ⊥
IsMemory (Missing name form) = ⊥
IsMemory (Unknown name form) = ⊥
IsMemory (Number name found) = ⊥
IsMemory (NotAList name) = ⊥
IsMemory (Step number found cause) = ⊥
IsMemory (Programs found cpus) = ⊥
IsMemory (Program number) = ⊥
IsMemory (Command program number found cause) = ⊥
IsMemory (Processor number cpus) = ⊥
